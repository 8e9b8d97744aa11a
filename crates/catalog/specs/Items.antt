-- The from items that are open where an expression stands, and what is open by them. Assumes nothing: these are definitions, and they
-- compute.
use Rattle.std.specs.Prelude.{cond, List, [], ◌∷◌, map, ℕ, zero, suc, ◌+◌, min, eqb, ltb, length, get_or}
use Rattle.meaning.specs.Bounds.{OpenRanges}
use Rattle.meaning.specs.Lists.{listed}
use Rattle.language.specs.Reading.{Open}
use Rattle.catalog.specs.Relations.{width_at, ranges_in, items_in}
use Rattle.catalog.specs.declared.items.Items.{Items}
use Rattle.catalog.specs.declared.relation.Relation.{Relation}

-- n bytes from a place on, 0 past the end
unfoldable pub bytes_at : List ℕ → ℕ → ℕ → List ℕ
bytes_at bytes at zero = []
bytes_at bytes at (suc n) = get_or bytes at 0 ∷ bytes_at bytes (at + 1) n

-- the relation of each item
unfoldable pub relations_in : Items → List ℕ
relations_in items = bytes_at items.relations 0 items.number

-- the first six of the relations that a frame names
unfoldable pub items_of : List ℕ → Items
items_of names = record { relations = bytes_at names 0 6; number = min (length names) 6 }

-- six bytes, that at place n being x
abbrev pub six_with : List ℕ → ℕ → ℕ → List ℕ
six_with bytes n x = map (λ k. cond (eqb k n) x (get_or bytes k 0)) (0 ∷ 1 ∷ 2 ∷ 3 ∷ 4 ∷ 5 ∷ [])

-- with one more item, the row of relation r; six stay as they are
unfoldable pub opened_items : Items → ℕ → Items
opened_items items r = cond (ltb items.number 6) (record { relations = six_with items.relations items.number r; number = items.number + 1 }) items

-- ---- what is open over a from list, n relations being before the view

-- the number of columns of each item
abbrev pub widths_in : List Relation → List ℕ → List ℕ
widths_in rs fs = map (width_at rs) fs

abbrev pub open_in : List Relation → ℕ → List ℕ → Open
open_in rs n fs = record { widths = widths_in rs fs; relations = listed (width_at rs) n }

abbrev pub open_ranges_in : List Relation → ℕ → List ℕ → ℕ → OpenRanges
open_ranges_in rs n fs R = record { ranges = items_in rs fs; bound = R; relations = listed (ranges_in rs) n }
