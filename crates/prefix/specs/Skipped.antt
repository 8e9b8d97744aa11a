-- Where a reader ends on the bytes of a frame, or the number of its refusal. Assumes nothing: these are definitions, and they compute.
use Rattle.std.specs.Prelude.{List, ℕ, ◌-◌, length, drop, Result, Ok, Err}
use Rattle.text.specs.Refusals.{number_of}
use Rattle.text.specs.declared.refusal.Reason.{Reason}
use Rattle.meaning.specs.Syntax.{Expr, Cond}
use Rattle.language.specs.Reading.{Read, Reader, Open, ◌>>=◌, choose, expressions, conditions, read_e, read_c}
use Rattle.catalog.specs.Items.{relations_in, open_in, opened_items}
use Rattle.catalog.specs.declared.relation.Relation.{Relation}
use Rattle.prefix.specs.declared.Setting.{Setting}

-- where the bytes behind a form start, or the number of its refusal
pub data FormEnd : Type 0 where
  next : ℕ → FormEnd
  refused : ℕ → FormEnd

-- what each answer of the code says, where its refusals are numbered so
abbrev pub skip_by : {E : Type 0} → (E → ℕ) → Result ℕ E → FormEnd
skip_by number (Ok n) = FormEnd.next n
skip_by number (Err e) = FormEnd.refused (number e)

-- a reason by its own number
abbrev pub skip_told : Result ℕ Reason → FormEnd
skip_told r = skip_by number_of r

-- what was read aside
abbrev pub skip_of : {A : Type 0} → List ℕ → Read A → FormEnd
skip_of frame (Read.ok a rest) = FormEnd.next (length frame - length rest)
skip_of frame (Read.refused n) = FormEnd.refused n

-- what the reader finds from the position `at` of the frame
unfoldable pub skipped : {A : Type 0} → List ℕ → ℕ → Reader A → FormEnd
skipped frame at m = skip_of frame (m (drop at frame))

-- two of the same
unfoldable pub twice : {A : Type 0} → Reader A → Reader A
twice r = r >>= λ _. r

-- ---- what is open where an expression stands

abbrev pub open_of : List Relation → Setting → Open
open_of rs s = open_in rs s.earlier (relations_in s.items)

abbrev pub opened_setting : Setting → ℕ → Setting
opened_setting s r = record { items = opened_items s.items r; earlier = s.earlier }

-- what stands behind a token
unfoldable pub behind_e : Open → ℕ → Reader Expr
behind_e o t = choose (expressions o (read_e o) (read_c o)) t

unfoldable pub behind_c : Open → ℕ → Reader Cond
behind_c o t = choose (conditions o (read_e o) read_c) t
