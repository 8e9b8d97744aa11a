-- What an entry says follows from equations of what computes. Assumes nothing.
use mathlib.Core.Path.{◌≡◌, ap, ◌∙◌}
use mathlib.Core.Bool.{true, cond}
use mathlib.Core.List.{List, [], ◌∷◌, ◌++◌, map}
use Prim.Native.Nat.{ℕ, ◌+◌, ◌≤◌}
use native.Mathlib.Omega.{arith}
use borrow.Author.Tests.{le-ltb}
use lib.Dec.{ltb}
use lib.IntN.{ℤ, pos}
use lib.ListN.{length, drop, replicate, length-replicate}
use Rattle.value.specs.Bag.{All}
use Rattle.value.specs.Integer.{bits_of, max_z, min_z, round_z, signed_of, steps_up}
use Rattle.value.specs.Value.{Value, apply, between, compare, connect, digit, finish, holds, more, negate, round, same_value, shown, size, start, sure, weight}
use Rattle.value.proofs.Decides.{dec-true}
use Rattle.value.proofs.Values.{all_map}
use Rattle.range.specs.Ranges.{range_from}
use Rattle.meaning.specs.Syntax.{File}
use Rattle.language.specs.Reading.{deep_e, read_e, read_c}
use Rattle.meaning.specs.Rows.{rows}
use Rattle.meaning.specs.Bounds.{schema, schemas}
use Rattle.meaning.specs.Decided.{valid, is_case, some_row, refusal, is_case_at, searched, look}
use Rattle.meaning.specs.Candidates.{cell_count, candidates, cells, database}
use Rattle.meaning.specs.Look.{Answer, After, answer_in, work_size, zeros}
use Rattle.meaning.specs.Looks.{Ask, NoDatabase}
use Rattle.meaning.proofs.DecidedLists.{ltb-dec}
use Rattle.meaning.proofs.OneLook.{passes-over-none}
use Rattle.meaning.proofs.Relations.{rows-mean}
use Rattle.text.specs.Text.{frames_of, lines_of, read_on, step, hex_value as hex_value, text_of, line, hex, hex_digit}
use Rattle.language.specs.Check.{Outcome, check_frame, reach}
use Rattle.language.specs.FileOf.{file_of}
use Rattle.language.proofs.TextLaws.{accepted-text}
use Rattle.language.proofs.RealLooks.{look-of-text, demand-3, look-says}
use Rattle.language.specs.LookOf.{look_of}
use Rattle.language.specs.OutputOf.{number_bytes, rows_frame, searched_all, output_of, output_room}
use Rattle.marked.specs.Table.{Entry, LookGives, Judges, Prints, Right}

-- ---- a look

-- what is left of a look where the buffers are long enough
abbrev fitting : File → ℕ → ℕ → List ℤ → List ℤ → After
fitting F start count work inst = cond (ltb (candidates F) start) (refusal 13 work inst) (searched F start count work inst)

look-fits : (F : File) (start count : ℕ) (work inst : List ℤ) → work_size ≤ length work → cell_count F ≤ length inst
    → look F start count work inst ≡ fitting F start count work inst
unfolding look
look-fits F start count work inst h i = rw (le-ltb (length work) work_size h, le-ltb (length inst) (cell_count F) i)

module _ (text : List ℕ) (F : File) (e : file_of text ≡ Outcome.accepted F) (s c : ℕ) (a : Answer) (shows : List ℤ) where
  gives : ((work inst : List ℤ) → fitting F s c work inst ≡ After.after a (zeros work) (shows ++ drop (length shows) inst)) → LookGives text s c a shows F
  gives f work inst h i = rw (look-of-text text F e, look-fits F s c work inst h i) (f work inst)

  -- by demand 3 of a list of one look
  no-database : (work inst w i : List ℤ) → s ≡ 0 → a ≡ Answer.no_case → look_of text s c work inst ≡ After.after a w i → NoDatabase F
  no-database work inst w i z n q =
      let ask : Ask = record { count = c; work = work; inst = inst } in
      let q0 : look_of text 0 c work inst ≡ After.after Answer.no_case w i = rw (z, n) at q in
      ((demand-3 text F e (ask ∷ [])).no-case-when.0 (rw q0)).1

  -- by what a look from any start says, at some buffers that are long enough
  judges : LookGives text s c a shows F → Judges s a F
  judges g =
      let work = replicate work_size (pos 0) in
      let inst = replicate (cell_count F) (pos 0) in
      let q = g work inst (omega (arith, length-replicate work_size (pos 0))) (omega (arith, length-replicate (cell_count F) (pos 0))) in
      let says = look-says text F e in
      let answer : answer_in (look_of text s c work inst) ≡ a = ap answer_in q in (
        rw answer at (passes-over-none F (look_of text) says s c work inst),
        λ k l. (((says s c work inst).case-when k).0 (answer ∙ l)).1.hit,
        λ z n. no-database work inst _ _ z n q,
      )

-- ---- an output

prints : (text output : List ℕ) → output_of text ≡ output → Prints text output
prints text output e out r out' p h =
    (rw (le-ltb (length out) output_room h, e) at p.length-is, rw (le-ltb (length out) output_room h, e) at p.left)

-- ---- an entry

-- what there is to compute of an entry. To unfold this is to unfold the names of its line
unfoldable pub Computed : Entry → Type 0
unfolding
    file_of frames_of lines_of read_on step hex_value reach check_frame read_e read_c deep_e signed_of min_z max_z candidates size
    is_case_at is_case valid some_row database cells digit shown between same_value compare apply round round_z steps_up sure holds negate connect
    start weight more finish output_of searched_all rows_frame number_bytes bits_of text_of line hex hex_digit
Computed (Entry.looked text s c a shows) = (F : File) × (file_of text ≡ Outcome.accepted F)
    × ((work inst : List ℤ) → fitting F s c work inst ≡ After.after a (zeros work) (shows ++ drop (length shows) inst))
Computed (Entry.viewed text k v rs) = (F : File) × (file_of text ≡ Outcome.accepted F)
    × (ltb k (candidates F) ≡ true) × (ltb v (length F.tables + length F.views) ≡ true) × (rows F (database F k) v ≡ map (map Value.number) rs)
Computed (Entry.bounded text v n rs) = (F : File) × (file_of text ≡ Outcome.accepted F)
    × (ltb v (length F.tables + length F.views) ≡ true)
    × (schema (schemas F) v ≡ record { bound = n; ranges = map (λ r. range_from r.0 r.1) rs })
Computed (Entry.accepted text n) = (F : File) × (file_of text ≡ Outcome.accepted F) × (candidates F ≡ n)
Computed (Entry.refused text n l) = file_of text ≡ Outcome.refused n l
Computed (Entry.printed text output) = output_of text ≡ output

pub right : (x : Entry) → Computed x → Right x
unfolding Computed Right
right (Entry.looked text s c a shows) (F, e, f) =
    let g = gives text F e s c a shows f in
    (F, e, g, judges text F e s c a shows g)
right (Entry.viewed text k v rs) (F, e, n, l, r) =
    (F, e, (dec-true (ltb-dec _ _) n, dec-true (ltb-dec _ _) l, rw r at (rows-mean F (accepted-text text F e).well-formed (database F k) v), r))
right (Entry.bounded text v n rs) (F, e, l, r) = (F, e, (dec-true (ltb-dec _ _) l, r))
right (Entry.accepted text n) c = c
right (Entry.refused text n l) c = c
right (Entry.printed text output) c = (c, prints text output c)

-- ---- a list, each element of which has an entry

pub right-all : {A : Type 0} (entry : A → Entry) {xs : List A} → All (λ x. Computed (entry x)) xs → All (λ x. Right (entry x)) xs
right-all entry cs = all_map (λ x c. right (entry x) c) cs

-- one more
infixr 5 ◌&◌
pub ◌&◌ : {A : Type 0} {P : A → Type 0} {x : A} {xs : List A} → P x → All P xs → All P (x ∷ xs)
p & ps = All.cons p ps
