-- The English pieces, with the limits of document 01 and, for exists and 14 to 18, of document 02. Assumes nothing: these are definitions.
use Rattle.std.specs.Prelude.{[], ◌∷◌}
use Rattle.sentences.specs.Words.{Language, utf8, texts}

abbrev pub english : Language
english = record {
  line = utf8 "Line ";
  colon = utf8 ": ";
  alone = texts
      ("The call was refused by number "
      ∷ "The rule file is empty or longer than 8,192 bytes (refusal 1)."
      ∷ "A line is not 1 to 120 pairs of the digits 0-9 and a-f, closed by a line feed (refusal 2)."
      ∷ "The rule file does not end with a goal (refusal 3)."
      ∷ "A line is too short or too long, or has a token that may not stand where it stands (refusal 4)."
      ∷ "A number is outside its limits: rows 0 to 8, columns 1 to 4, key mask within the columns, lo at most hi, key pairs 1 to 4, from items 1 to 3, at most 6 with those of exists, selected columns 1 to 8, grouping columns 0 to 4, rounding step 1 to 1,000, aggregate 0 to 3, sign 0 or 1, at most 16 relations and 16 foreign keys (refusal 5)."
      ∷ "A line names a relation, from item or column that is not there or does not fit, or its columns do not pair with the parent's key or the other view (refusal 6)."
      ∷ "An aggregate stands outside the having and select of an aggregate view or inside another, a column outside every aggregate is not a grouping column, or an exists stands elsewhere than in where (refusal 7)."
      ∷ "A view could have more than 64 rows (refusal 8)."
      ∷ "A value could lie outside -2,147,483,648 to 2,147,483,647 (refusal 9)."
      ∷ "The tables allow more than 16,777,216 databases (refusal 10)."
      ∷ "The work area has fewer than 9,216 numbers (refusal 11)."
      ∷ "The instance buffer has fewer numbers than the tables have cells (refusal 12)."
      ∷ "The start is above the number of candidates (refusal 13)."
      ∷ "The answer frames are malformed, missing or surplus, or have other row counts than the rule file (refusal 14)."
      ∷ "No formula can be written: the file allows blanks, or its goal needs exists, an intersection, or an aggregate without grouping columns or over more than 6 combinations (refusal 15)."
      ∷ "The formula is longer than the buffer for it (refusal 16)."
      ∷ "The share of each turn is 0; it must be at least 1 (refusal 17)."
      ∷ "The queue has more than 8 entries, or an entry's text ends beyond the text that was lent (refusal 18)."
      ∷ []);
  there = texts
      ("refused by number "
      ∷ "the rule file is empty or longer than 8,192 bytes (refusal 1)."
      ∷ "it is not 1 to 120 pairs of the digits 0-9 and a-f, closed by a line feed (refusal 2)."
      ∷ "its kind is unknown or out of order; the order is tables, foreign keys, views, one goal (refusal 3)."
      ∷ "it is too short or too long, or has a token that may not stand where it stands (refusal 4)."
      ∷ "a number is outside its limits: rows 0 to 8, columns 1 to 4, key mask within the columns, lo at most hi, key pairs 1 to 4, from items 1 to 3, at most 6 with those of exists, selected columns 1 to 8, grouping columns 0 to 4, rounding step 1 to 1,000, aggregate 0 to 3, sign 0 or 1, at most 16 relations and 16 foreign keys (refusal 5)."
      ∷ "it names a relation, from item or column that is not there or does not fit, or its columns do not pair with the parent's key or the other view (refusal 6)."
      ∷ "an aggregate stands outside the having and select of an aggregate view or inside another, a column outside every aggregate is not a grouping column, or an exists stands elsewhere than in where (refusal 7)."
      ∷ "this view could have more than 64 rows (refusal 8)."
      ∷ "a value could lie outside -2,147,483,648 to 2,147,483,647 (refusal 9)."
      ∷ "the tables allow more than 16,777,216 databases (refusal 10)."
      ∷ "the work area has fewer than 9,216 numbers (refusal 11)."
      ∷ "the instance buffer has fewer numbers than the tables have cells (refusal 12)."
      ∷ "the start is above the number of candidates (refusal 13)."
      ∷ "the answer frames are malformed, missing or surplus, or have other row counts than the rule file (refusal 14)."
      ∷ "no formula can be written: the file allows blanks, or its goal needs exists, an intersection, or an aggregate without grouping columns or over more than 6 combinations (refusal 15)."
      ∷ "the formula is longer than the buffer for it (refusal 16)."
      ∷ "the share of each turn is 0; it must be at least 1 (refusal 17)."
      ∷ "the queue has more than 8 entries, or an entry's text ends beyond the text that was lent (refusal 18)."
      ∷ []);
  close = utf8 ", which has no sentence of its own.";
}
