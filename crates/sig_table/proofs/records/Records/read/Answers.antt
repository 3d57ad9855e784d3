use Rattle.std.proofs.Common.{◌∙◌, inl}
use Rattle.csv.specs.Records.{fields_of}
use Rattle.sig_table.proofs.RecordLemmas.{left-read, reader-read, reader-stopped, records_left-failed}
use Rattle.sig_table.proofs.records.Records.read.Goals as goal
use Rattle.sig_table.proofs.records.Records.read.Goals.{in-Ok, in-Err}

pub want_of_memory-requires : goal.want_of_memory-requires
want_of_memory-requires c =
    let e = c.in-Err.ensures in
    reader-stopped c.self.inside.reader c.read_byte_record.new.self c.self.invariant c.in-Err.error.kind c.in-Err.error e.failed e.why

pub invariant_of-self : goal.invariant_of-self
invariant_of-self c = elim c.match-read_byte_record.branch [
  | in-Ok w ↦
      let e = w.in-Ok.ensures in
      reader-read c.self.inside.reader c.read_byte_record.new.self c.self.invariant w.in-Ok.found (fields_of c.read_byte_record.new.row) e.reads e.ready
      e.flexible e.goes
  | in-Err w ↦
      let e = w.in-Err.ensures in
      inl (e.fails ∙ reader-stopped c.self.inside.reader c.read_byte_record.new.self c.self.invariant w.in-Err.error.kind w.in-Err.error e.failed e.why)
]

pub returns-clause-next : goal.returns-clause-next
returns-clause-next c = elim c.match-read_byte_record.branch [
  | in-Ok w ↦
      let e = w.in-Ok.ensures in
      rw (w.result-is, ← c.self.view_is) (left-read c.self.inside.reader c.read_byte_record.new.self c.self.invariant w.in-Ok.found
      (fields_of c.read_byte_record.new.row) e.reads e.failed)
  | in-Err w ↦ rw w.result-is tt
]

pub returns-clause-stops : goal.returns-clause-stops
returns-clause-stops c = elim c.match-read_byte_record.branch [
  | in-Ok w ↦ rw w.result-is tt
  | in-Err w ↦
      let e = w.in-Err.ensures in
      rw w.result-is (records_left-failed c.read_byte_record.new.self (e.fails
      ∙ reader-stopped c.self.inside.reader c.read_byte_record.new.self c.self.invariant w.in-Err.error.kind w.in-Err.error e.failed e.why))
]
