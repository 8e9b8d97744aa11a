-- What the second program prints for real texts, word for word: each refusal of a text from 1 to 10, at its line and at line 0. Assumes
-- nothing: these are definitions.
use Rattle.std.specs.Prelude.{◌≡◌, List, [], ◌∷◌, ◌++◌, ℕ, replicate}
use Prim.Native.String.{String}
use Rattle.sentences.specs.Words.{texts}
use Rattle.sentences.specs.SheetOf.{in_lines, sheet_of}
use Rattle.marked.specs.Table.{bytes, lines, program, selected, combined, squared}

-- a text, and the lines of its sheet
pub record SheetEntry : Type 0 where
  pub text : List ℕ
  pub sheet : List String

unfoldable pub SheetIs : SheetEntry → Type 0
SheetIs e = sheet_of e.text ≡ in_lines (texts e.sheet)

abbrev pub prints : List ℕ → List String → SheetEntry
prints text sheet = record { text = text; sheet = sheet }

-- "or nothing where there is no 8f": a file with a case, and one without
abbrev pub of_accepted : List SheetEntry
of_accepted = prints (program "070200") [] ∷ prints (program "070201") [] ∷ []

-- of the text: no byte, one byte too many; a capital digit, a last line that is not closed, and a line far below
abbrev pub of_text : List SheetEntry
of_text =
    prints []
    ("The rule file is empty or longer than 8,192 bytes (refusal 1)."
    ∷ "Le fichier de règles est vide ou dépasse 8\u{202f}192 octets (refus 1)."
    ∷ [])
    ∷ prints (replicate 8193 10)
    ("The rule file is empty or longer than 8,192 bytes (refusal 1)."
    ∷ "Le fichier de règles est vide ou dépasse 8\u{202f}192 octets (refus 1)."
    ∷ [])
    ∷ prints (lines ("010101000000000C" ∷ []))
    ("Line 1: it is not 1 to 120 pairs of the digits 0-9 and a-f, closed by a line feed (refusal 2)."
    ∷ "Ligne 1\u{a0}: elle n’est pas faite de 1 à 120 paires de chiffres 0-9 et a-f, suivies d’un saut de ligne (refus 2)."
    ∷ [])
    ∷ prints (program "070200" ++ bytes "01")
    ("Line 5: it is not 1 to 120 pairs of the digits 0-9 and a-f, closed by a line feed (refusal 2)."
    ∷ "Ligne 5\u{a0}: elle n’est pas faite de 1 à 120 paires de chiffres 0-9 et a-f, suivies d’un saut de ligne (refus 2)."
    ∷ [])
    ∷ prints (lines (replicate 1000 "01") ++ bytes "0")
    ("Line 1001: it is not 1 to 120 pairs of the digits 0-9 and a-f, closed by a line feed (refusal 2)."
    ∷ "Ligne 1001\u{a0}: elle n’est pas faite de 1 à 120 paires de chiffres 0-9 et a-f, suivies d’un saut de ligne (refus 2)."
    ∷ [])
    ∷ []

-- of the order of frames: one behind the goal, and no goal
abbrev pub of_order : List SheetEntry
of_order =
    prints (program "070200" ++ lines ("070200" ∷ []))
    ("Line 5: its kind is unknown or out of order; the order is tables, foreign keys, views, one goal (refusal 3)."
    ∷ "Ligne 5\u{a0}: son type est inconnu ou n’est pas à sa place\u{202f}; l’ordre est tables, clés étrangères, vues, un objectif (refus 3)."
    ∷ [])
    ∷ prints (lines ("010101000000000c" ∷ []))
    ("The rule file does not end with a goal (refusal 3)."
    ∷ "Le fichier de règles ne se termine pas par un objectif (refus 3)."
    ∷ [])
    ∷ []

-- of a frame's bytes: a goal without its sign, with sign 2, and of a relation that is not there
abbrev pub of_bytes : List SheetEntry
of_bytes =
    prints (program "0702")
    ("Line 4: it is too short or too long, or has a token that may not stand where it stands (refusal 4)."
    ∷ "Ligne 4\u{a0}: elle est trop courte ou trop longue, ou contient un code qui ne peut pas se trouver là où il est (refus 4)."
    ∷ [])
    ∷ prints (program "070202")
    ("Line 4: a number is outside its limits: rows 0 to 8, columns 1 to 4, key mask within the columns, lo at most hi, key pairs 1 to 4, from items 1 to 3, at most 6 with those of exists, selected columns 1 to 8, grouping columns 0 to 4, rounding step 1 to 1,000, aggregate 0 to 3, sign 0 or 1, at most 16 relations and 16 foreign keys (refusal 5)."
    ∷ "Ligne 4\u{a0}: un nombre est hors de ses limites\u{a0}: rangées 0 à 8, colonnes 1 à 4, masque de clé dans les colonnes, lo au plus égal à hi, paires de clé 1 à 4, éléments de from 1 à 3, au plus 6 avec ceux des exists, colonnes sélectionnées 1 à 8, colonnes de regroupement 0 à 4, pas d’arrondi 1 à 1\u{202f}000, agrégat 0 à 3, signe 0 ou 1, au plus 16 relations et 16 clés étrangères (refus 5)."
    ∷ [])
    ∷ prints (program "070300")
    ("Line 4: it names a relation, from item or column that is not there or does not fit, or its columns do not pair with the parent's key or the other view (refusal 6)."
    ∷ "Ligne 4\u{a0}: elle nomme une relation, un élément de from ou une colonne qui n’existe pas ou ne convient pas, ou ses colonnes ne correspondent pas à la clé du parent ou à l’autre vue (refus 6)."
    ∷ [])
    ∷ []

-- of a whole frame and of the amounts. A sum in a basic view; M11, M12 and M10
abbrev pub of_rules : List SheetEntry
of_rules =
    prints (lines ("0101010000000003" ∷ "03010001100701010000" ∷ "070100" ∷ []))
    ("Line 2: an aggregate stands outside the having and select of an aggregate view or inside another, a column outside every aggregate is not a grouping column, or an exists stands elsewhere than in where (refusal 7)."
    ∷ "Ligne 2\u{a0}: un agrégat se trouve hors du having et du select d’une vue d’agrégation ou dans un autre, une colonne hors de tout agrégat n’est pas une colonne de regroupement, ou un exists se trouve ailleurs que dans where (refus 7)."
    ∷ [])
    ∷ prints (combined "03030001020110010000")
    ("Line 4: this view could have more than 64 rows (refusal 8)."
    ∷ "Ligne 4\u{a0}: cette vue pourrait avoir plus de 64 rangées (refus 8)."
    ∷ [])
    ∷ prints (squared "0101010080007fff")
    ("Line 2: a value could lie outside -2,147,483,648 to 2,147,483,647 (refusal 9)."
    ∷ "Ligne 2\u{a0}: une valeur pourrait sortir de l’intervalle de −2\u{202f}147\u{202f}483\u{202f}648 à 2\u{202f}147\u{202f}483\u{202f}647 (refus 9)."
    ∷ [])
    ∷ prints (selected "0101020000000fff00001000" "070100")
    ("The tables allow more than 16,777,216 databases (refusal 10)."
    ∷ "Les tables permettent plus de 16\u{202f}777\u{202f}216 bases de données (refus 10)."
    ∷ [])
    ∷ []

abbrev pub sheet_table : List SheetEntry
sheet_table = of_accepted ++ of_text ++ of_order ++ of_bytes ++ of_rules
