-- Where the priorities of a table come from: a file, or a header in its place.
use Rattle.std.specs.Prelude.{ℕ, Bool, false, List, Option, Some, length}
use Rattle.sig_engines.specs.declared.priority_input.PriorityInput.{PriorityInput}
use Rattle.sig_engines.specs.declared.priority_input.PriorityInput.TheVariants.{File, Header}

-- whether a read has failed: of a header none does
abbrev pub has_failed : {R : Type 0} → (R → Bool) → PriorityInput R → Bool
has_failed failed (File file) = failed file
has_failed failed (Header rest) = false

-- how many bytes may still come
abbrev pub limit_of : {R : Type 0} → (R → ℕ) → PriorityInput R → ℕ
limit_of limit (File file) = limit file
limit_of limit (Header rest) = length rest.now

-- the bytes still to come, where they are known
abbrev pub to_come_of : {R : Type 0} → (R → Option (List ℕ)) → PriorityInput R → Option (List ℕ)
to_come_of to_come (File file) = to_come file
to_come_of to_come (Header rest) = Some rest.now
