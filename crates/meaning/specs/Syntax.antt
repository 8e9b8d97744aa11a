-- The abstract syntax of a rule file. Terms of document 01: a relation is a table or a view, numbered together from 0; a from item is a
-- place in a view's list of relations, numbered from 0; "kind" there is the constructor here. Assumes nothing: these are definitions.
use Rattle.std.specs.Prelude.{List, Bool, ℕ, ℤ}
use Rattle.value.specs.Value.{Value, Operation, Comparison, Connective, Aggregate, Column}

-- "Both are in prefix form, and each may hold the other"
mutual
  pub data Expr : Type 0 where
    constant : ℤ → Expr
    -- from item, column
    column : ℕ → ℕ → Expr
    operation : Operation → Expr → Expr → Expr
    -- step m
    rounding : ℕ → Expr → Expr
    -- "06 a condition and two expressions: the first if it holds, else the second"
    choice : Cond → Expr → Expr → Expr
    aggregate : Aggregate → Expr → Expr

  pub data Cond : Type 0 where
    always : Cond
    comparison : Comparison → Expr → Expr → Cond
    negated : Cond → Cond
    connection : Connective → Cond → Cond → Cond
    -- "token 17, a relation numbered below the view, a condition"
    exists : ℕ → Cond → Cond

-- a grouping column: "(from item, column)"
pub record Place : Type 0 where
  pub item : ℕ
  pub column : ℕ

-- "05 union, 06 intersection"
pub data SetOperation : Type 0 where
  union intersection : SetOperation

pub data View : Type 0 where
  -- from list, where, select
  basic : List ℕ → Cond → List Expr → View
  -- from list, where, grouping columns, having, select
  grouped : List ℕ → Cond → List Place → Cond → List Expr → View
  -- "two earlier views"
  set : SetOperation → ℕ → ℕ → View

-- "rows, columns, key mask": `key` says of each column whether it is in the primary key
pub record Table : Type 0 where
  pub rows : ℕ
  pub columns : List Column
  pub key : List Bool

-- "child column, parent column"
pub record Pair : Type 0 where
  pub child : ℕ
  pub parent : ℕ

pub record ForeignKey : Type 0 where
  pub child : ℕ
  pub parent : ℕ
  pub pairs : List Pair

-- "a view, sign (0 positive, 1 negative)"
pub record Goal : Type 0 where
  pub view : ℕ
  pub negative : Bool

-- "Order: tables, foreign keys, views, one goal"
pub record File : Type 0 where
  pub tables : List Table
  pub keys : List ForeignKey
  pub views : List View
  pub goal : Goal

abbrev pub Row : Type 0
Row = List Value

-- one row for each from item
abbrev pub Combination : Type 0
Combination = List Row

-- "A database gives each table its number of rows, in any order, and each row one value for each column"
abbrev pub Database : Type 0
Database = List (List Row)
