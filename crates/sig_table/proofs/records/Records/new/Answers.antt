use Rattle.std.proofs.Common.{◌∙◌, inr}
use Rattle.csv.specs.Reading.{strip_bom}
use Rattle.sig_table.proofs.RecordLemmas.{records_left-new, records_of-few}
use Rattle.sig_table.proofs.records.Records.new.Goals as goal

pub returns-clause-records : goal.returns-clause-records
returns-clause-records c = records_left-new c.from_reader-reader.result c.args.text.now c.from_reader-reader.ensures.state c.from_reader-reader.ensures.source

pub returns-clause-few : goal.returns-clause-few
returns-clause-few c = rw (returns-clause-records c) (records_of-few c.args.text.now)

pub invariant_of-result : goal.invariant_of-result
invariant_of-result c =
    let made = c.from_reader-reader.ensures in
    let f = c.flexible.ensures in
    let h = c.has_headers.ensures in
    inr (record {
      dialect = rw (f, h) at made.config ∙ c.new.ensures.config;
      untrimmed = rw (f, h) at made.trim ∙ c.new.ensures.trim;
      flexible = rw f at made.flexible;
      ready = inr (inr (rw (f, h) at made.has_headers, made.headers));
      text = strip_bom c.args.text.now;
      left = made.source;
    })
