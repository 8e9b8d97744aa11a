-- Candidates: "The cells of tables, rows, columns, in that order, are the digits of a candidate number, first cell most significant,
-- digit = value - lo." Assumes nothing: these are definitions, and they compute.
use Rattle.std.specs.Prelude.{◌≡◌, List, [], ◌∷◌, ◌++◌, ℕ, zero, suc, ◌+◌, ◌*◌, ◌/◌, ◌%◌, ◌<◌, length, take, drop, ◌≤ℤ◌}
use Rattle.value.specs.Bag.{All}
use Rattle.value.specs.Integer.{low16, high16}
use Rattle.value.specs.Value.{Value, Column, size, digit, digit_of}
use Rattle.meaning.specs.Lists.{copies}
use Rattle.meaning.specs.Syntax.{Table, File, Database}
use Rattle.meaning.specs.Valid.{Shaped}

-- the column of each cell
abbrev pub cell_columns : List Table → List Column
cell_columns [] = []
cell_columns (t ∷ ts) = copies t.rows t.columns ++ cell_columns ts

-- "The number N of candidates is the product of the column sizes, 1 with no cells": one factor for each cell
abbrev pub sizes_product : List Column → ℕ
sizes_product [] = 1
sizes_product (c ∷ cs) = size c * sizes_product cs

-- the cells of candidate k
abbrev pub values : List Column → ℕ → List Value
values [] k = []
values (c ∷ cs) k = digit c (k / sizes_product cs % size c) ∷ values cs k

-- the number of a list of cells: "first cell most significant", each digit worth the product of the sizes behind it
abbrev pub number : List Column → List Value → ℕ
number [] vs = 0
number (c ∷ cs) [] = 0
number (c ∷ cs) (v ∷ vs) = digit_of c v * sizes_product cs + number cs vs

-- a list of cells, cut into rows of w and these into tables
abbrev pub cut_rows : {A : Type 0} → ℕ → ℕ → List A → List (List A)
cut_rows zero w xs = []
cut_rows (suc n) w xs = take w xs ∷ cut_rows n w (drop w xs)

abbrev pub cut : {A : Type 0} → List Table → List A → List (List (List A))
cut [] xs = []
cut (t ∷ ts) xs =
    let w = length t.columns in
    cut_rows t.rows w xs ∷ cut ts (drop (t.rows * w) xs)

module _ (F : File) where
  abbrev pub cell_count : ℕ
  cell_count = length (cell_columns F.tables)

  unfoldable pub candidates : ℕ
  candidates = sizes_product (cell_columns F.tables)

  unfoldable pub cells : ℕ → List Value
  cells k = values (cell_columns F.tables) k

  -- the database of candidate k
  unfoldable pub database : ℕ → Database
  database k = cut F.tables (cells k)

-- every database with the file's row counts and value ranges is the database of exactly one k below N, whose digits are its cells
pub record Numbered (F : File) : Type 0 where
  pub shaped : (k : ℕ) → Shaped F (database F k)
  pub candidate : (d : Database) → Shaped F d → (k : ℕ) × (k < candidates F) × (database F k ≡ d)
  pub unique : (j k : ℕ) → j < candidates F → k < candidates F → database F j ≡ database F k → j ≡ k
  pub order : (k : ℕ) → k < candidates F → number (cell_columns F.tables) (cells F k) ≡ k

-- "Sixteen-bit fields .. a value, lo, hi .. is two's complement": 16 bits hold every value of every column
pub record Held16 (c : Column) : Type 0 where
  pub low : low16 ≤ℤ c.lo
  pub high : c.hi ≤ℤ high16

abbrev pub SixteenBits : File → Type 0
SixteenBits F = All (λ t. All Held16 t.columns) F.tables
