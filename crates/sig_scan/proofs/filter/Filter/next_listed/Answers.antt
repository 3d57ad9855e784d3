use Rattle.sig_scan.proofs.Common.{arith}
use Rattle.sig_scan.proofs.FilterLemmas.{ArePassed-on, ArePassed-unmarked}
use Rattle.sig_scan.proofs.filter.Filter.next_listed.Goals as goal

pub places-init : goal.places-init
places-init c = record {
  even = c.next_marked-place.ensures.place.even;
  order = c.next_marked-place.ensures.place.order;
  few = c.next_marked-place.ensures.place.few;
  passed = rw c.self.view_is at (ArePassed-unmarked c.self.inside.marks.items c.self.inside.slots.items c.self.inside.entries.items c.args.bytes.now
      c.args.from c.next_marked-place.result c.self.invariant c.requires.even (rw c.deref.ensures.value at c.next_marked-place.ensures.unmarked));
}

pub places-preserved : goal.places-preserved
places-preserved c =
    let bytes = c.args.bytes.now in
    let place = c.places.place in
    let none = rw c.deref-in-places-2.ensures.value at c.next_marked-place-in-places.ensures.unmarked in
    let unlisted = rw c.deref-in-places.ensures.value at (c.is_listed.ensures c.if-is_listed.false) in
    record {
      even = c.next_marked-place-in-places.ensures.place.even;
      order = omega (arith, c.places.invariant.order, c.next_marked-place-in-places.ensures.place.order);
      few = c.next_marked-place-in-places.ensures.place.few;
      passed = rw c.self.view_is at (ArePassed-on c.self.inside.marks.items c.self.inside.slots.items c.self.inside.entries.items bytes c.args.from place
          c.next_marked-place-in-places.result c.self.invariant c.places.invariant.even unlisted none (rw c.self.view_is c.places.invariant.passed));
    }
