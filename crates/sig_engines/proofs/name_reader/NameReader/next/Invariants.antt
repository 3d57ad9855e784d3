use Rattle.std.proofs.Common.{◌≡◌, ◌+◌, length, false}
use Rattle.sig_bits.specs.Device.{Gives}
use Rattle.sig_engines.specs.Listed.{LacksByte, left_of, unread_of}
use Rattle.sig_engines.proofs.name_reader.NameReader.next.Given as goal

-- what is taken so far is the name, which has no end
abbrev pub invariant-pieces : goal.invariant-pieces
invariant-pieces g l = record {
  end : l.self.end ≡ l.initial.self.end;
  lacks : LacksByte l.self.end l.name.items;
  given : Gives (unread_of g.I.Input.to_come l.initial.self) l.name.items (unread_of g.I.Input.to_come l.self);
  left : left_of g.I.Input.limit l.initial.self ≡ length l.name.items + left_of g.I.Input.limit l.self;
  sound : g.I.Input.failed l.initial.self.input ≡ false → g.I.Input.failed l.self.input ≡ false;
}

abbrev pub decreases-pieces : goal.decreases-pieces
decreases-pieces g l = g.I.Input.limit l.self.input
