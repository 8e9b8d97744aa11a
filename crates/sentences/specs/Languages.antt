-- The languages and places of the code: the pieces that each stands for. Assumes nothing: these are definitions.
use Rattle.std.specs.Prelude.{◌≡◌, ◌<◌, List, ℕ, Result, MatchResult}
use Rattle.sentences.specs.declared.Language.{Language as Tongue}
use Rattle.sentences.specs.declared.Language.TheVariants.{English, French}
use Rattle.sentences.specs.declared.UnknownLanguage.{UnknownLanguage}
use Rattle.sentences.specs.declared.Place.{Place}
use Rattle.sentences.specs.declared.Place.TheVariants.{Alone, There}
use Rattle.sentences.specs.Words.{Language}
use Rattle.sentences.specs.English.{english}
use Rattle.sentences.specs.French.{french}

abbrev pub language_in : Tongue → Language
language_in English = english
language_in French = french

-- 0 is English, 1 is French
abbrev pub number_in : Tongue → ℕ
number_in English = 0
number_in French = 1

-- the language that a number stands for, or an error for a number of none
abbrev pub Names : ℕ → Result Tongue UnknownLanguage → Type 0
Names number r = MatchResult r (λ t. number_in t ≡ number) (λ _. 1 < number)

-- the sentences behind a line, or those where none is named
abbrev pub texts_in : Place → Language → List (List ℕ)
texts_in Alone w = w.alone
texts_in There w = w.there

-- where these begin among the pieces
abbrev pub first_in : Place → ℕ
first_in Alone = 3
first_in There = 22
