use Rattle.std.proofs.Common.{◌≡◌, ◌<◌, ◌+◌, ◌-◌, ◌++◌, false, length, map, sym, true, ◌∙◌, subst, arith}
use Rattle.std.specs.List.{filter, range_with_len, flat_map}
use Rattle.std.proofs.lemmas.Result.{err_from_is_err_and}
use Rattle.sig_cert.specs.Pairs.{pairs_with}
use Rattle.sig_cert.proofs.Exports.{pairs_left-cons, pairs_with-cons}
use Rattle.sig_engines.specs.Asks.{is_asked}
use Rattle.sig_engines.specs.Pairs.{AreTold}
use Rattle.sig_engines.specs.Stores.{IsMade}
use Rattle.sig_engines.proofs.TellingLemmas.{cut_is_searched, ends_cut, goes_told, has_room, next_asked, next_not_asked}
use Rattle.sig_engines.proofs.conflicts_engine.write_pairs.Goals as goal

pub loop-j-init : goal.loop-j-init
loop-j-init g c = (
  c.loop-i.invariant.0,
  subst (λ pairs. AreTold (IsMade g.S.Store.name_of g.S.Writer.Output.written g.S.Writer.Output.failed (g.S.Store.held c.args.run.now.store.now))
      c.args.run.now.ask
      c.args.run.now.table.now (filter (is_asked c.args.run.now.ask.only) pairs) c.loop-i.told.counts c.loop-i.told.notes.items
      (g.W.Output.written c.args.out.now)
      (g.W.Output.written c.loop-i.out))
      (pairs_left-cons c.format_count-formats.result c.loop-i.i c.loop-i-test.true) c.loop-i.invariant.1,
)

pub write_pair-requires-clause-room : goal.write_pair-requires-clause-room
write_pair-requires-clause-room g c =
    has_room (IsMade g.S.Store.name_of g.S.Writer.Output.written g.S.Writer.Output.failed (g.S.Store.held c.args.run.now.store.now)) c.args.run.now.ask
    c.args.run.now.table.now _
    c.loop-j.told.counts c.loop-j.told.notes.items (g.W.Output.written c.args.out.now) (g.W.Output.written c.loop-j.out) c.format_count-formats.result
    c.format_count-formats.ensures.limit c.format_count-formats.ensures.count c.loop-j.invariant.1

pub returns-in_err-write_pair-clause-stops : goal.returns-in_err-write_pair-clause-stops
returns-in_err-write_pair-clause-stops g c =
    let n = c.format_count-formats.result in
    let left = flat_map (pairs_with n) (range_with_len (c.loop-i.i + 1) (n - (c.loop-i.i + 1))) in
    let all = map (λ j. (c.loop-i.i, j)) (range_with_len c.loop-j.j (n - c.loop-j.j)) ++ left in
    let rest = map (λ j. (c.loop-i.i, j)) (range_with_len (c.loop-j.j + 1) (n - (c.loop-j.j + 1))) ++ left in
    let asked : is_asked c.args.run.now.ask.only (c.loop-i.i, c.loop-j.j) ≡ true = sym c.has_pair.ensures ∙ c.if-not-has_pair.false in
    let is = next_asked c.args.run.now.ask.only (c.loop-i.i, c.loop-j.j) all rest (pairs_with-cons n c.loop-i.i c.loop-j.j left c.loop-j-test.true) asked in
    let p = err_from_is_err_and c.from_residual.result c.from_residual.ensures.1 in
    rw (p.1, p.2) (record {
      stops = ends_cut (IsMade g.S.Store.name_of g.S.Writer.Output.written g.S.Writer.Output.failed (g.S.Store.held c.args.run.now.store.now))
          c.args.run.now.ask
          c.args.run.now.table.now g.S.Writer.Output.failed c.in_err-write_pair.field-0.0 (c.loop-i.i, c.loop-j.j)
          (filter (is_asked c.args.run.now.ask.only) all)
          (filter (is_asked c.args.run.now.ask.only) rest) c.loop-j.told.counts c.loop-j.told.notes.items _
          (g.W.Output.written c.args.out.now) (g.W.Output.written c.loop-j.out) _ is c.loop-j.invariant.1 c.in_err-write_pair.ensures.cut;
      unmade = c.in_err-write_pair.ensures.unmade;
      untouched = cut_is_searched g.S.Writer.Output.failed c.in_err-write_pair.field-0.0 c.args.run.now.ask c.args.run.now.table.now _ _ _ _
          c.in_err-write_pair.ensures.cut;
    })

pub pairs-requires : goal.pairs-requires
pairs-requires g c =
    let n = c.format_count-formats.result in
    let left = flat_map (pairs_with n) (range_with_len (c.loop-i.i + 1) (n - (c.loop-i.i + 1))) in
    let all = map (λ j. (c.loop-i.i, j)) (range_with_len c.loop-j.j (n - c.loop-j.j)) ++ left in
    let rest = map (λ j. (c.loop-i.i, j)) (range_with_len (c.loop-j.j + 1) (n - (c.loop-j.j + 1))) ++ left in
    let asked : is_asked c.args.run.now.ask.only (c.loop-i.i, c.loop-j.j) ≡ true = sym c.has_pair.ensures ∙ c.if-not-has_pair.false in
    let is = next_asked c.args.run.now.ask.only (c.loop-i.i, c.loop-j.j) all rest (pairs_with-cons n c.loop-i.i c.loop-j.j left c.loop-j-test.true) asked in
    let within : (c.loop-i.i < length c.args.run.now.table.now.formats) × (c.loop-j.j < length c.args.run.now.table.now.formats) =
    (omega (arith, c.loop-i-test.true, c.format_count-formats.ensures.count), omega (arith, c.loop-j-test.true, c.format_count-formats.ensures.count)) in
    let told = goes_told (IsMade g.S.Store.name_of g.S.Writer.Output.written g.S.Writer.Output.failed (g.S.Store.held c.args.run.now.store.now))
    c.args.run.now.ask
    c.args.run.now.table.now (c.loop-i.i, c.loop-j.j) (filter (is_asked c.args.run.now.ask.only) all) (filter (is_asked c.args.run.now.ask.only) rest)
    c.loop-j.told.counts
    c.write_pair.new.told.counts c.loop-j.told.notes.items c.write_pair.new.told.notes.items
    (g.W.Output.written c.args.out.now) (g.W.Output.written c.loop-j.out) (g.W.Output.written c.write_pair.new.out) is within c.loop-j.invariant.1
    c.in_ok-write_pair.ensures.told in
    let room = has_room (IsMade g.S.Store.name_of g.S.Writer.Output.written g.S.Writer.Output.failed (g.S.Store.held c.args.run.now.store.now))
    c.args.run.now.ask
    c.args.run.now.table.now (filter (is_asked c.args.run.now.ask.only) rest) c.write_pair.new.told.counts c.write_pair.new.told.notes.items
    (g.W.Output.written c.args.out.now) (g.W.Output.written c.write_pair.new.out) n c.format_count-formats.ensures.limit
    c.format_count-formats.ensures.count told in
    omega (arith, room.pairs)

pub loop-j-preserved-then-not-has_pair : goal.loop-j-preserved-then-not-has_pair
loop-j-preserved-then-not-has_pair g c =
    let n = c.format_count-formats.result in
    let left = flat_map (pairs_with n) (range_with_len (c.loop-i.i + 1) (n - (c.loop-i.i + 1))) in
    let all = map (λ j. (c.loop-i.i, j)) (range_with_len c.loop-j.j (n - c.loop-j.j)) ++ left in
    let rest = map (λ j. (c.loop-i.i, j)) (range_with_len (c.loop-j.j + 1) (n - (c.loop-j.j + 1))) ++ left in
    let not_asked : is_asked c.args.run.now.ask.only (c.loop-i.i, c.loop-j.j) ≡ false = sym c.has_pair.ensures ∙ c.if-not-has_pair.true in (
      c.loop-j.invariant.0,
      subst (λ pairs. AreTold (IsMade g.S.Store.name_of g.S.Writer.Output.written g.S.Writer.Output.failed (g.S.Store.held c.args.run.now.store.now))
          c.args.run.now.ask
          c.args.run.now.table.now pairs c.loop-j.told.counts c.loop-j.told.notes.items (g.W.Output.written c.args.out.now) (g.W.Output.written c.loop-j.out))
          (next_not_asked c.args.run.now.ask.only (c.loop-i.i, c.loop-j.j) all rest (pairs_with-cons n c.loop-i.i c.loop-j.j left c.loop-j-test.true) not_asked)
          c.loop-j.invariant.1,
    )

pub loop-j-preserved : goal.loop-j-preserved
loop-j-preserved g c =
    let n = c.format_count-formats.result in
    let left = flat_map (pairs_with n) (range_with_len (c.loop-i.i + 1) (n - (c.loop-i.i + 1))) in
    let all = map (λ j. (c.loop-i.i, j)) (range_with_len c.loop-j.j (n - c.loop-j.j)) ++ left in
    let rest = map (λ j. (c.loop-i.i, j)) (range_with_len (c.loop-j.j + 1) (n - (c.loop-j.j + 1))) ++ left in
    let asked : is_asked c.args.run.now.ask.only (c.loop-i.i, c.loop-j.j) ≡ true = sym c.has_pair.ensures ∙ c.if-not-has_pair.false in
    let is = next_asked c.args.run.now.ask.only (c.loop-i.i, c.loop-j.j) all rest (pairs_with-cons n c.loop-i.i c.loop-j.j left c.loop-j-test.true) asked in
    let within : (c.loop-i.i < length c.args.run.now.table.now.formats) × (c.loop-j.j < length c.args.run.now.table.now.formats) =
    (omega (arith, c.loop-i-test.true, c.format_count-formats.ensures.count), omega (arith, c.loop-j-test.true, c.format_count-formats.ensures.count)) in (
      g.met.O.Observer.goes_on _ _ _ c.loop-j.invariant.0 c.report-in-loop-j.ensures,
      goes_told (IsMade g.S.Store.name_of g.S.Writer.Output.written g.S.Writer.Output.failed (g.S.Store.held c.args.run.now.store.now)) c.args.run.now.ask
          c.args.run.now.table.now
          (c.loop-i.i, c.loop-j.j) (filter (is_asked c.args.run.now.ask.only) all) (filter (is_asked c.args.run.now.ask.only) rest) c.loop-j.told.counts
          c.write_pair.new.told.counts c.loop-j.told.notes.items c.write_pair.new.told.notes.items
          (g.W.Output.written c.args.out.now) (g.W.Output.written c.loop-j.out) (g.W.Output.written c.write_pair.new.out) is within c.loop-j.invariant.1
          c.in_ok-write_pair.ensures.told,
    )

pub returns-clause-few : goal.returns-clause-few
returns-clause-few g c =
    let room = has_room (IsMade g.S.Store.name_of g.S.Writer.Output.written g.S.Writer.Output.failed (g.S.Store.held c.args.run.now.store.now))
    c.args.run.now.ask
    c.args.run.now.table.now _ c.loop-i.told.counts c.loop-i.told.notes.items (g.W.Output.written c.args.out.now) (g.W.Output.written c.loop-i.out)
    c.format_count-formats.result c.format_count-formats.ensures.limit c.format_count-formats.ensures.count c.loop-i.invariant.1 in
    omega (arith, room.pairs)
