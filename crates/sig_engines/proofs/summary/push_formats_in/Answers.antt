use Rattle.std.proofs.Common.{◌≡◌, ◌∙◌, arith, ap, eq-eqb, get_or, length, string_bytes, sym}
use Rattle.std.specs.Prelude.{◌==◌}
use Rattle.std.proofs.lemmas.Bool.{ne_eqb}
use Rattle.std.proofs.lemmas.List.FromFn.{length-map-range_with_len, get_or-map-range_with_len}
use Rattle.sig_engines.specs.Notes.{lines_in, summary_line}
use Rattle.sig_engines.proofs.SummaryLemmas.{format_passed, format_written}
use Rattle.sig_engines.proofs.summary.push_formats_in.Goals as goal
use Rattle.sig_engines.proofs.summary.push_formats_in.Goals.{then-lines-format+in_ok-push_line, else-lines-format}

pub bounds-lines-format : goal.bounds-lines-format
bounds-lines-format c =
    let long = length-map-range_with_len (lines_in c.args.notes.now) 0 (length c.args.table.now.formats) in
    rw c.requires (omega (arith, long, c.loop-format-test.true, c.format_count-format-end.ensures.count))

pub loop-format-preserved : goal.loop-format-preserved
loop-format-preserved c =
    let n = c.loop-format.format in
    let within = c.loop-format-test.true in
    let count = c.format_count-format-end.ensures.count in
    let own : get_or c.args.lines.now n 0 ≡ lines_in c.args.notes.now n =
    ap (λ l. get_or l n 0) c.requires ∙ get_or-map-range_with_len (lines_in c.args.notes.now) 0 (length c.args.table.now.formats) n n 0
    (omega (arith, within, count)) (omega arith) in
    elim c.if-lines-format.branch [
      | then-lines-format+in_ok-push_line w ↦
          rw w.text-is (format_written (summary_line c.args.table.now c.args.notes.now) (λ format. lines_in c.args.notes.now format == c.args.count) n
          (string_bytes c.args.text.now) (string_bytes c.loop-format.text) (string_bytes w.push_line.new.text)
          (eq-eqb (lines_in c.args.notes.now n) c.args.count (sym own ∙ w.if-lines-format.true)) c.loop-format.invariant w.in_ok-push_line.ensures)
      | else-lines-format w ↦
          rw w.text-is (format_passed (summary_line c.args.table.now c.args.notes.now) (λ format. lines_in c.args.notes.now format == c.args.count) n
          (string_bytes c.args.text.now) (string_bytes c.loop-format.text)
          (ne_eqb (lines_in c.args.notes.now n) c.args.count (λ same. w.if-lines-format.false (own ∙ same))) c.loop-format.invariant)
    ]
