-- What writes of several pieces add to an output.
use Rattle.std.proofs.Common.{◌≡◌, ◌++◌, ℕ, Bool, true, false, List, Option, None, Some, Result, Ok, Err, append_assoc, ◌∙◌, ap, sym}
use Rattle.sig_bits.specs.Device.{Adds}
use Rattle.sig_engines.specs.Writing.{Prints}

pub adds_then : (before mid after : Option (List ℕ)) (a b : List ℕ) → Adds before a mid → Adds mid b after → Adds before (a ++ b) after
adds_then None mid after a b first second = tt
adds_then (Some before) None after a b first second = absurd first
adds_then (Some before) (Some mid) None a b first second = absurd second
adds_then (Some before) (Some mid) (Some after) a b first second = second ∙ ap (λ l. l ++ b) first ∙ append_assoc before a b

-- a piece is written, and then the rest
pub prints_then : {T E : Type 0} (result : Result T E) (before mid after : Option (List ℕ)) (a b : List ℕ) (failed : Bool) → Adds before a mid
    → Prints result b mid after failed → Prints result (a ++ b) before after failed
prints_then (Ok t) before mid after a b failed first rest = (adds_then before mid after a b first rest.0, rest.1)
prints_then (Err e) before mid after a b failed first rest = rest

-- where no write failed, the text was added
pub printed : {T E : Type 0} (result : Result T E) (text : List ℕ) (before after : Option (List ℕ)) (failed : Bool) → Prints result text before after failed
    → failed ≡ false → Adds before text after
printed (Ok t) text before after failed prints sound = prints.0
printed (Err e) text before after failed prints sound = let wrong : true ≡ false = sym prints.1 ∙ sound in cc
