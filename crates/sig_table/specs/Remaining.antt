-- What an iterator over the signatures of a format has left.
use Rattle.std.specs.Prelude.{List}
use Rattle.sig_table.specs.declared.ids.SigId.{SigId}
use Rattle.sig_table.specs.declared.signatures_of.SignaturesOf.{SignaturesOf}
use Rattle.sig_table.specs.Links.{linked_from}

-- the signatures still to come, in order
abbrev pub remaining_of : SignaturesOf → List SigId
remaining_of signatures = linked_from signatures.nexts.now signatures.place
