-- The theorem on the sheets of real texts: every entry of the table is right. Assumes nothing.
use mathlib.Core.Path.{◌≡◌, refl, ◌∙◌}
use mathlib.Core.List.{[]}
use Prim.Native.Nat.{ℕ}
use Rattle.value.specs.Bag.{All}
use Rattle.meaning.proofs.Elements.{all_append}
use Rattle.sentences.specs.Words.{texts}
use Rattle.sentences.specs.Sentence.{figures_of, sentence}
use Rattle.sentences.specs.SheetOf.{in_lines, both_sentences}
use Rattle.sentences.proofs.SheetLaws.{sheet-accepted, sheet-refused}
use Rattle.marked.specs.Table.{Entry, Right}
use Rattle.marked.specs.Sheets.{SheetEntry, SheetIs, of_accepted, of_text, of_order, of_bytes, of_rules, sheet_table}
use Rattle.marked.proofs.Computed.{Computed, right, ◌&◌}

-- a text that is accepted, whose sheet has no line
silent : (e : SheetEntry) (n : ℕ) → Computed (Entry.accepted e.text n) → [] ≡ in_lines (texts e.sheet) → SheetIs e
unfolding Right SheetIs
silent e n c s = let (F, f, k) = right (Entry.accepted e.text n) c in sheet-accepted e.text f ∙ s

-- a text that is refused by a number at a line
said : (e : SheetEntry) (n l : ℕ) → Computed (Entry.refused e.text n l) → both_sentences n l ≡ in_lines (texts e.sheet) → SheetIs e
unfolding Right SheetIs
said e n l c s = sheet-refused e.text (right (Entry.refused e.text n l) c) ∙ s

none-accepted : All SheetIs of_accepted
unfolding Computed in_lines
none-accepted = silent _ 13 (_, refl, refl) refl & silent _ 13 (_, refl, refl) refl & All.nil

by-text : All SheetIs of_text
unfolding Computed in_lines both_sentences sentence figures_of
by-text = said _ 1 0 refl refl & said _ 1 0 refl refl & said _ 2 1 refl refl & said _ 2 5 refl refl & said _ 2 1001 refl refl & All.nil

by_order : All SheetIs of_order
unfolding Computed in_lines both_sentences sentence figures_of
by_order = said _ 3 5 refl refl & said _ 3 0 refl refl & All.nil

by_bytes : All SheetIs of_bytes
unfolding Computed in_lines both_sentences sentence figures_of
by_bytes = said _ 4 4 refl refl & said _ 5 4 refl refl & said _ 6 4 refl refl & All.nil

by-rules : All SheetIs of_rules
unfolding Computed in_lines both_sentences sentence figures_of
by-rules = said _ 7 2 refl refl & said _ 8 4 refl refl & said _ 9 2 refl refl & said _ 10 0 refl refl & All.nil

pub sheets : All SheetIs sheet_table
sheets = all_append (all_append (all_append (all_append none-accepted by-text) by_order) by_bytes) by-rules
