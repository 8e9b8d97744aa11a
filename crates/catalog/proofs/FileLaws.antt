-- What a file in memory tells of its relations. Assumes nothing.
use mathlib.Core.Path.{◌≡◌, sym, ap, ap₂, ◌∙◌}
use mathlib.Core.List.{List, [], map}
use Prim.Native.Nat.{ℕ, ◌<◌}
use native.Mathlib.Omega.{arith}
use lib.IntN.{ℤ}
use lib.ListN.{length, get_or, length-map}
use Rattle.value.specs.Bag.{All}
use Rattle.value.specs.Integer.{narrow16}
use Rattle.value.specs.Value.{Column}
use Rattle.value.proofs.Fits.{narrow16-held}
use Rattle.value.proofs.Order.{≤_trans}
use Rattle.range.specs.declared.Range.{Range}
use Rattle.range.specs.Ranges.{range_from}
use Rattle.meaning.specs.Syntax.{Table, File}
use Rattle.meaning.specs.Bounds.{Schema, no_schema, schema, schemas, table_schema, view_schema}
use Rattle.meaning.proofs.Elements.{all-at}
use Rattle.meaning.proofs.ListSteps.{map_at}
use Rattle.meaning.proofs.Stacks.{stack-keeps}
use Rattle.language.specs.Legal.{LegalColumn, LegalTable, table_at}
pub use Rattle.catalog.specs.Relations.{no_column}
use Rattle.catalog.specs.Relations.{no_range, relation_at, width_at, bound_at, schema_in, range_at, column_at}
use Rattle.catalog.specs.declared.relation.Relation.{Relation}
use Rattle.catalog.specs.declared.outline.Outline.{Outline}
use Rattle.catalog.specs.Frames.{frame_at}
use Rattle.catalog.specs.FileIn.{TablesKnown, Source, source_from, FileIn, FileLaid, SameButRanges}
use Rattle.catalog.proofs.RelationLaws.{length-ranges}

-- a table's schema is what it declares
pub table-schema : (F : File) (t : ℕ) → t < length F.tables → schema (schemas F) t ≡ table_schema (table_at F.tables t)
table-schema F t h =
    let l : t < length (map table_schema F.tables) = omega (arith, h, length-map F.tables table_schema) in
    stack-keeps view_schema no_schema F.views (map table_schema F.tables) t l
    ∙ map_at table_schema F.tables t (record { rows = 0; columns = []; key = [] }) no_schema h

-- a legal column is told by its range
column-told : (c : Column) → LegalColumn c → record { lo = narrow16 c.lo; hi = narrow16 c.hi } ≡ c
column-told c l = ap₂ (λ (a b : ℤ). record { lo = a; hi = b })
    (narrow16-held l.low (≤_trans l.ordered l.high)) (narrow16-held (≤_trans l.low l.ordered) l.high)

-- relations with the schemas of legal tables are the tables
pub tables-in : {ts : List Table} {rs : List Relation} → All LegalTable ts
    → ((t : ℕ) → t < length ts → schema_in rs t ≡ table_schema (table_at ts t)) → TablesKnown ts rs
unfolding column_at
tables-in {ts} {rs} legal known = record {
  rows = λ t h. ap (λ (s : Schema). s.bound) (known t h);
  width = λ t h. sym (length-ranges (relation_at rs t)) ∙ ap (λ (s : Schema). length s.ranges) (known t h) ∙ length-map (table_at ts t).columns _;
  column = λ t c h k.
      let cs = (table_at ts t).columns in
      let x = get_or cs c no_column in
      let range : range_at rs t c ≡ range_from x.lo x.hi =
      ap (λ (s : Schema). get_or s.ranges c no_range) (known t h) ∙ map_at (λ (y : Column). range_from y.lo y.hi) cs c no_column no_range k in
      ap (λ (r : Range). record { lo = narrow16 r.lo; hi = narrow16 r.hi }) range
      ∙ column-told x (all-at (all-at legal (record { rows = 0; columns = []; key = [] }) t h).columns no_column c k);
}

module _ {F : File} {source : Source} (M : FileIn F source) where
  pub width_is : (i : ℕ) → width_at source.relations i ≡ length (schema (schemas F) i).ranges
  width_is i = sym (length-ranges (relation_at source.relations i)) ∙ ap (λ (s : Schema). length s.ranges) (M.known i)

  pub bound-is : (i : ℕ) → bound_at source.relations i ≡ (schema (schemas F) i).bound
  bound-is i = ap (λ (s : Schema). s.bound) (M.known i)

  pub tables-are : TablesKnown F.tables source.relations
  tables-are = tables-in M.legal.tables (λ t h. M.known t ∙ table-schema F t h)

  -- of a table
  pub rows_are : (t : ℕ) → t < length F.tables → bound_at source.relations t ≡ (table_at F.tables t).rows
  rows_are = tables-are.rows

  pub columns-are : (t : ℕ) → t < length F.tables → width_at source.relations t ≡ length (table_at F.tables t).columns
  columns-are = tables-are.width

  pub column-is : (t c : ℕ) → t < length F.tables → c < length (table_at F.tables t).columns
      → column_at source.relations t c ≡ get_or (table_at F.tables t).columns c no_column
  column-is = tables-are.column

-- ---- by the number of the ranges alone

pub laid : {F : File} {source : Source} → FileIn F source → FileLaid F source
laid M = record {
  legal = M.legal;
  sized = M.sized;
  tables = M.tables;
  keys = M.keys;
  relations = M.relations;
  views = M.views;
  foreign = M.foreign;
  bounds = bound-is M;
  widths = width_is M;
  masks = M.masks;
  filled = M.filled;
}

-- whatever the ranges are
pub relaid : {F : File} {bytes : List ℕ} {rs rs' : List Relation} {o : Outline} → SameButRanges rs rs' → FileLaid F (source_from bytes rs o)
    → FileLaid F (source_from bytes rs' o)
relaid {bytes = bytes} s L = record {
  legal = L.legal;
  sized = s.size ∙ L.sized;
  tables = L.tables;
  keys = L.keys;
  relations = L.relations;
  views = λ v q e. ap (frame_at bytes) (s.start v) ∙ L.views v q e;
  foreign = L.foreign;
  bounds = λ i. s.bound i ∙ L.bounds i;
  widths = λ i. s.width i ∙ L.widths i;
  masks = λ i h. s.mask i ∙ L.masks i h;
  filled = L.filled;
}

-- of a table
pub columns-laid : {F : File} {source : Source} → FileLaid F source → (t : ℕ) → t < length F.tables
    → width_at source.relations t ≡ length (table_at F.tables t).columns
columns-laid {F} L t h = L.widths t ∙ ap (λ (s : Schema). length s.ranges) (table-schema F t h) ∙ length-map (table_at F.tables t).columns _
