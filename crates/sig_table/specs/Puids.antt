-- The text of a PUID, and the PUID of a text.
use Rattle.std.specs.Prelude.{ℕ, Bool, true, false, ◌&&◌, nat_eq, List, drop, ◌++◌, codes, Option, None, option_map, if◌then◌else◌}
use Rattle.std.specs.Fmt.{decimal}
use Rattle.std.specs.List.{starts_with}
use Rattle.sig_table.specs.declared.puid.Puid.{Puid}
use Rattle.sig_table.specs.declared.puid.Registry.{Registry}
use Rattle.sig_table.specs.declared.puid.Registry.TheVariants.{Fmt, XFmt}
use Rattle.sig_table.specs.Numbers.{positive_of}

-- the registry's name and a slash
abbrev pub registry_text : Registry → List ℕ
registry_text Fmt = codes "fmt/"
registry_text XFmt = codes "x-fmt/"

-- the registry and the number
abbrev pub puid_text : Puid → List ℕ
puid_text puid = registry_text puid.registry ++ decimal puid.number

-- whether two registries are one
abbrev pub registry_eq : Registry → Registry → Bool
registry_eq Fmt Fmt = true
registry_eq Fmt XFmt = false
registry_eq XFmt Fmt = false
registry_eq XFmt XFmt = true

-- whether two PUIDs are one
abbrev pub puid_eq : Puid → Puid → Bool
puid_eq a b = registry_eq a.registry b.registry && nat_eq a.number b.number

-- the PUID of a registry whose number these digits write
abbrev pub numbered : Registry → List ℕ → Option Puid
numbered registry digits = option_map (λ n. record { registry = registry; number = n }) (positive_of digits)

-- the PUID that the text is of
unfoldable pub puid_of : List ℕ → Option Puid
puid_of text =
    if starts_with nat_eq text (codes "fmt/") then numbered Fmt (drop 4 text)
    else (if starts_with nat_eq text (codes "x-fmt/") then numbered XFmt (drop 6 text) else None)
