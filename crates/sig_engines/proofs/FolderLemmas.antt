-- What waits for its turn while a folder is gone through.
use Rattle.std.proofs.Common.{◌≡◌, ◌<◌, ◌+◌, ◌-◌, ◌*◌, ◌^◌, ℕ, zero, suc, List, [], ◌∷◌, ◌++◌, ap, append_assoc, arith, inl, inr, length, map, refl, subst, sym}
use Rattle.std.proofs.Common.{◌∙◌}
use Rattle.std.specs.Prelude.{reverse}
use Rattle.std.proofs.lemmas.Grind.{reverse_onto}
use Rattle.std.proofs.lemmas.List.{append-nil, reverse-append, reverse-reverse}
use Rattle.std.proofs.lemmas.Nat.{mul-le}
use Rattle.sig_engines.specs.Stores.{Holding, IsUnlisted, Lists, item_of}
use Rattle.sig_engines.specs.Visits.{AreEach, AreIn, AreMet, AreOfKind, IsOne, Visit, to_match, to_tell}
use Rattle.sig_engines.specs.Waiting.{AreMetOf, Covers, Leads, Pushes, waiting_in, worth, worth_of}
use Rattle.sig_engines.specs.declared.error.FileFault.{FileFault}
use Rattle.sig_engines.specs.declared.error.FileFault.TheVariants.{Run}
use Rattle.sig_engines.specs.declared.error.NameFault.TheVariants.{File, NotRegular, NotText, TooDeep}
use Rattle.sig_engines.specs.declared.error.RunError.TheVariants.{OutOfMemory}
use Rattle.sig_engines.specs.declared.folder_engine.Waiting.{Waiting}
use Rattle.sig_engines.specs.declared.store.Entry.{Entry}
use Rattle.sig_engines.specs.declared.store.EntryKind.{EntryKind}
use Rattle.sig_engines.specs.declared.store.EntryKind.TheVariants as kind
use Rattle.sig_engines.proofs.ManyLemmas.{each_some, no_memory}

-- ---- visits

each_split : {X : Type 0} (A : X → List Visit → Type 0) (xs ys : List X) (v : List Visit) → AreEach A (xs ++ ys) v → (first : List Visit) × (rest : List Visit)
    × (v ≡ first ++ rest) × AreEach A xs first × AreEach A ys rest
each_split A [] ys v each = ([], v, refl, refl, each)
each_split A (x ∷ xs) ys v each =
    let more = each_split A xs ys each.1 each.4 in
    (each.0 ++ more.0, more.1, each.2 ∙ ap (λ l. each.0 ++ l) more.2 ∙ sym (append_assoc each.0 more.0 more.1), (each.0, more.0, refl, each.3, more.3), more.4)

-- whatever stands in a folder has some visits
some_of_kind : (held : Holding) (room : ℕ) (name : List ℕ) (kind : EntryKind) → (v : List Visit) × AreOfKind held room name kind v
some_of_kind held room name kind.File = (to_match name ∷ [], refl)
some_of_kind held room name kind.NotRegular = (to_tell name NotRegular ∷ [], refl)
some_of_kind held room name kind.NotText = (to_tell name NotText ∷ [], refl)
some_of_kind held zero name kind.Folder = (to_tell name TooDeep ∷ [], refl)
some_of_kind held (suc room) name kind.Folder = (to_tell name (File (Run OutOfMemory)) ∷ [], inl (Run OutOfMemory, no_memory held name, refl))

some_met : (held : Holding) (waiting : Waiting) → (v : List Visit) × AreMetOf held waiting v
some_met held waiting = some_of_kind held waiting.room (item_of waiting.entry).name waiting.entry.kind

-- ---- what waits

same_each : (held : Holding) (room : ℕ) (entries : List Entry) (v : List Visit) → AreEach (AreMetOf held) (map (waiting_in room) entries) v
    → AreEach (AreMet held room) (map item_of entries) v
same_each held room [] v each = each
same_each held room (e ∷ es) v each = (each.0, each.1, each.2, each.3, same_each held room es each.1 each.4)

-- all that stands in a folder waits
pub folder_leads : (held : Holding) (room : ℕ) (name : List ℕ) (entries : List Entry) (before after : List Waiting) → Lists held name (map item_of entries)
    → Pushes room entries before after → Leads held (AreIn (AreMet held room) held name) [] before after
folder_leads held room name entries before after lists pushes = record {
  added = map (waiting_in room) entries;
  are = pushes.are;
  leads = λ rest each. inr (map item_of entries, lists, same_each held room entries rest each);
}

-- nothing more waits
pub nothing_leads : (held : Holding) (Are : List Visit → Type 0) (v : List Visit) (before after : List Waiting) → after ≡ before → Are v
    → Leads held Are v before after
nothing_leads held Are v before after same is = record {
  added = [];
  are = same ∙ sym (append-nil before);
  leads = λ rest none. rw none (subst Are (sym (append-nil v)) is);
}

reverse_both : (added before : List Waiting) → reverse (before ++ reverse added) ≡ added ++ reverse before
reverse_both added before = reverse-append before (reverse added) ∙ ap (λ l. l ++ reverse before) (reverse-reverse added)

-- at first what stands in the folder waits
pub leads_covers : (held : Holding) (Are : List Visit → Type 0) (after : List Waiting) → Leads held Are [] [] after → Covers held Are [] after
leads_covers held Are after leads = λ rest each. leads.leads rest
    (subst (λ l. AreEach (AreMetOf held) l rest) (ap reverse leads.are ∙ reverse-reverse leads.added) each)

-- the next one had its turn
pub covers_then : (held : Holding) (Are : List Visit → Type 0) (next : Waiting) (mid waiting after : List Waiting) (v w : List Visit)
    → waiting ≡ mid ++ next ∷ [] → Covers held Are v waiting → Leads held (AreMetOf held next) w mid after → Covers held Are (v ++ w) after
covers_then held Are next mid waiting after v w popped covers leads = λ rest each.
    let parts = each_split (AreMetOf held) leads.added (reverse mid) rest
    (subst (λ l. AreEach (AreMetOf held) l rest) (ap reverse leads.are ∙ reverse_both leads.added mid) each) in
    let first = parts.0 in
    let later = parts.1 in
    let all : AreEach (AreMetOf held) (next ∷ reverse mid) ((w ++ first) ++ later) = (w ++ first, later, refl, leads.leads first parts.3, parts.4) in
    let turned : next ∷ reverse mid ≡ reverse waiting = sym (ap reverse popped ∙ reverse-append mid (next ∷ [])) in
    let same : v ++ ((w ++ first) ++ later) ≡ (v ++ w) ++ rest =
    ap (λ l. v ++ l) (append_assoc w first later) ∙ sym (append_assoc v w (first ++ later)) ∙ ap (λ l. (v ++ w) ++ l) (sym parts.2) in
    subst Are same (covers ((w ++ first) ++ later) (subst (λ l. AreEach (AreMetOf held) l ((w ++ first) ++ later)) turned all))

-- the run ends in the middle of the next one
pub covers_more : (held : Holding) (Are : List Visit → Type 0) (next : Waiting) (mid waiting : List Waiting) (v w : List Visit) → waiting ≡ mid ++ next ∷ []
    → Covers held Are v waiting → AreMetOf held next w → (more : List Visit) × Are (v ++ w ++ more)
covers_more held Are next mid waiting v w popped covers is =
    let some = each_some (AreMetOf held) (some_met held) (reverse mid) in
    let all : AreEach (AreMetOf held) (next ∷ reverse mid) (w ++ some.0) = (w, some.0, refl, is, some.1) in
    let turned : next ∷ reverse mid ≡ reverse waiting = sym (ap reverse popped ∙ reverse-append mid (next ∷ [])) in
    (some.0, subst Are (sym (append_assoc v w some.0)) (covers (w ++ some.0) (subst (λ l. AreEach (AreMetOf held) l (w ++ some.0)) turned all)))

-- nothing waits any more
pub covers_all : (held : Holding) (Are : List Visit → Type 0) (waiting : List Waiting) (v : List Visit) → waiting ≡ [] → Covers held Are v waiting → Are v
covers_all held Are waiting v none covers = subst Are (append-nil v) (covers [] (rw none refl))

-- ---- what is met in a folder

-- a file
pub file_met : (held : Holding) (room : ℕ) (name : List ℕ) (k : EntryKind) (v : List Visit) → k ≡ kind.File → IsOne (to_match name) v
    → AreOfKind held room name k v
file_met held room name k v is one = rw is one

-- a folder below too many others
pub deep_met : (held : Holding) (room : ℕ) (name : List ℕ) (k : EntryKind) → room ≡ 0 → k ≡ kind.Folder → AreOfKind held room name k (to_tell name TooDeep ∷ [])
deep_met held room name k none is = rw (none, is) refl

-- a folder that can't be listed
pub unlisted_met : (held : Holding) (room : ℕ) (name : List ℕ) (k : EntryKind) (fault : FileFault) → 0 < room → k ≡ kind.Folder → IsUnlisted held name fault
    → AreOfKind held room name k (to_tell name (File fault) ∷ [])
unlisted_met held zero name k fault some is unlisted = absurd (omega (arith, some))
unlisted_met held (suc room) name k fault some is unlisted = rw is (inl (fault, unlisted, refl))

pub some_room : (room : ℕ) → (room ≡ 0 → ⊥) → 0 < room
some_room zero none = absurd (none refl)
some_room (suc room) none = omega arith

one_less : (room : ℕ) → suc room - 1 ≡ room
one_less room = omega arith

-- a folder that is listed
pub folder_met : (held : Holding) (room : ℕ) (name : List ℕ) (k : EntryKind) (v : List Visit) → 0 < room → k ≡ kind.Folder
    → AreIn (AreMet held (room - 1)) held name v → AreOfKind held room name k v
folder_met held zero name k v some is are = absurd (omega (arith, some))
folder_met held (suc room) name k v some is are = rw is (subst (λ r. AreIn (AreMet held r) held name v) (one_less room) are)

pub leads_as : (held : Holding) (A B : List Visit → Type 0) (v : List Visit) (before after : List Waiting) → ((w : List Visit) → A w → B w)
    → Leads held A v before after → Leads held B v before after
leads_as held A B v before after are leads = record { added = leads.added; are = leads.are; leads = λ rest each. are (v ++ rest) (leads.leads rest each) }

-- ---- entries that are pushed

-- one more of them
pub pushed_more : (room : ℕ) (entry : Entry) (moved : List Entry) (before : List Waiting)
    → (before ++ reverse (map (waiting_in room) moved)) ++ waiting_in room entry ∷ [] ≡ before ++ reverse (map (waiting_in room) (entry ∷ moved))
pushed_more room entry moved before = append_assoc before (reverse (map (waiting_in room) moved)) (waiting_in room entry ∷ []) ∙ ap (λ l. before ++ l)
    (sym (reverse_onto (map (waiting_in room) moved) (waiting_in room entry) []))

-- ---- that it ends

pub worth_of-append : (xs ys : List Waiting) → worth_of (xs ++ ys) ≡ worth_of xs + worth_of ys
worth_of-append [] ys = omega arith
worth_of-append (x ∷ xs) ys = let more = worth_of-append xs ys in omega (arith, more)

pub worth_next : (mid waiting : List Waiting) (next : Waiting) → waiting ≡ mid ++ next ∷ [] → worth_of waiting ≡ worth_of mid + worth next.room
worth_next mid waiting next popped = let all = ap worth_of popped ∙ worth_of-append mid (next ∷ []) in omega (arith, all)

pub worth_some : (room : ℕ) → 0 < worth room
unfolding worth
worth_some zero = omega arith
worth_some (suc room) = omega arith

worth_of-reverse : (xs : List Waiting) → worth_of (reverse xs) ≡ worth_of xs
worth_of-reverse [] = refl
worth_of-reverse (x ∷ xs) = let more = worth_of-reverse xs in let both = ap worth_of (reverse_onto xs x []) ∙ worth_of-append (reverse xs) (x ∷ []) in
    omega (arith, more, both)

worth_of_all : (room : ℕ) (entries : List Entry) → worth_of (map (waiting_in room) entries) ≡ length entries * worth room
worth_of_all room [] = omega arith
worth_of_all room (e ∷ es) = let more = worth_of_all room es in omega (arith, more)

pub pushes_lower : (room : ℕ) (entries : List Entry) (before after : List Waiting) → Pushes room entries before after
    → worth_of after < worth_of before + worth (suc room)
unfolding worth
pushes_lower room entries before after pushes =
    let added = map (waiting_in room) entries in
    let sum = ap worth_of pushes.are ∙ worth_of-append before (reverse added) in
    let back = worth_of-reverse added in
    let all = worth_of_all room entries in
    let few = pushes.few in
    let most = mul-le (length entries) (worth room) (2 ^ 64) (worth room) (omega (arith, few)) (omega arith) in
    omega (arith, sum, back, all, most)

-- the one that had its turn waits no more
pub worth_less : (waiting : List Waiting) (room : ℕ) → worth_of waiting < worth_of waiting + worth room
worth_less waiting room = let some = worth_some room in omega (arith, some)

pub folder_lowers : (room : ℕ) (entries : List Entry) (before after : List Waiting) → 0 < room → Pushes (room - 1) entries before after
    → worth_of after < worth_of before + worth room
folder_lowers zero entries before after some pushes = absurd (omega (arith, some))
folder_lowers (suc room) entries before after some pushes = pushes_lower room entries before after
    (subst (λ r. Pushes r entries before after) (one_less room) pushes)
