-- The words of classes, and the counts of them.
use Rattle.std.specs.Prelude.{ℕ, Bool, true, false, List, [], ◌++◌, codes, Option, None, Some}
use Rattle.std.specs.Fmt.{decimal}
use Rattle.sig_find.specs.declared.class.PairClass.{PairClass}
use Rattle.sig_find.specs.declared.class.PairClass.TheVariants.{Apart, Open, Over, Same, Under}

-- whether the two are one class
abbrev pub is_same : PairClass → PairClass → Bool
is_same Over Over = true
is_same Under Under = true
is_same Same Same = true
is_same Apart Apart = true
is_same Open Open = true
is_same class other = false

-- whether there is a class, and it is this one
abbrev pub is_class : PairClass → Option PairClass → Bool
is_class class None = false
is_class class (Some other) = is_same class other

-- the word of a class, with a space before it
abbrev pub class_word : PairClass → List ℕ
class_word Over = codes " over"
class_word Under = codes " under"
class_word Same = codes " same"
class_word Apart = codes " apart"
class_word Open = codes " open"

-- nothing where there is no class
abbrev pub class_text : Option PairClass → List ℕ
class_text None = []
class_text (Some class) = class_word class

-- ` over .. under .. same .. apart .. open ..`
abbrev pub classes_text : (PairClass → ℕ) → List ℕ
classes_text count =
    codes " over " ++ decimal (count Over) ++ codes " under " ++ decimal (count Under) ++ codes " same " ++ decimal (count Same)
    ++ codes " apart " ++ decimal (count Apart) ++ codes " open " ++ decimal (count Open)

-- nothing where classes are not asked for
abbrev pub classes_if_asked : Bool → (PairClass → ℕ) → List ℕ
classes_if_asked true count = classes_text count
classes_if_asked false count = []
