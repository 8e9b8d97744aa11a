-- Sentences and what is read back from them, by computation. Assumes nothing.
use mathlib.Core.Path.{◌≡◌, refl}
use mathlib.Core.List.{List, [], ◌∷◌, ◌++◌}
use Prim.Native.Nat.{ℕ}
use Rattle.sentences.specs.Words.{utf8}
use Rattle.sentences.specs.English.{english}
use Rattle.sentences.specs.French.{french}
use Rattle.sentences.specs.Sentence.{figures_of, sentence, value_from, past_figures, begins, place_of, back}

-- ---- one byte, two and three

characters : utf8 "Aé’\u{a0}\u{202f}" ≡ 0x41 ∷ 0xc3 ∷ 0xa9 ∷ 0xe2 ∷ 0x80 ∷ 0x99 ∷ 0xc2 ∷ 0xa0 ∷ 0xe2 ∷ 0x80 ∷ 0xaf ∷ []
characters = refl

-- ---- a line that is named

-- two halves, only for the width of this page
abbrev six-at-seven : List ℕ
six-at-seven = utf8 "Line 7: it names a relation, from item or column that is not there or does not fit, "
    ++ utf8 "or its columns do not pair with the parent's key or the other view (refusal 6)."

english-line : sentence english 6 7 ≡ six-at-seven
unfolding sentence figures_of
english-line = refl

french-line : sentence french 3 12 ≡ utf8
    "Ligne 12\u{a0}: son type est inconnu ou n’est pas à sa place\u{202f}; l’ordre est tables, clés étrangères, vues, un objectif (refus 3)."
unfolding sentence figures_of
french-line = refl

-- ---- none

english-alone : sentence english 1 0 ≡ utf8 "The rule file is empty or longer than 8,192 bytes (refusal 1)."
unfolding sentence
english-alone = refl

french-alone : sentence french 1 0 ≡ utf8 "Le fichier de règles est vide ou dépasse 8\u{202f}192 octets (refus 1)."
unfolding sentence
french-alone = refl

-- ---- a later number

english-later : sentence english 200 65535 ≡ utf8 "Line 65535: refused by number 200, which has no sentence of its own."
unfolding sentence figures_of
english-later = refl

french-later : sentence french 200 65535 ≡ utf8 "Ligne 65535\u{a0}: refusé par le numéro 200, qui n’a pas sa propre phrase."
unfolding sentence figures_of
french-later = refl

later-alone : sentence english 19 0 ≡ utf8 "The call was refused by number 19, which has no sentence of its own."
unfolding sentence figures_of
later-alone = refl

-- ---- back

back-line : back english six-at-seven ≡ (6, 7)
unfolding back begins place_of value_from past_figures
back-line = refl

back-short : back english (utf8 "Line 40: this view could have more than 64 rows (refusal 8).") ≡ (8, 40)
unfolding back begins place_of value_from past_figures
back-short = refl

back_alone : back french (utf8 "La formule est plus longue que le tampon prévu pour elle (refus 16).") ≡ (16, 0)
unfolding back begins place_of value_from
back_alone = refl

back-later : back french (utf8 "Ligne 65535\u{a0}: refusé par le numéro 200, qui n’a pas sa propre phrase.") ≡ (200, 65535)
unfolding back begins place_of value_from past_figures
back-later = refl
