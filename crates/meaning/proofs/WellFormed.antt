-- The rules of a well-formed file, one by one. Assumes nothing.
use mathlib.Core.Path.{◌≡◌}
use mathlib.Core.Bool.{true}
use mathlib.Core.List.{List, []}
use Rattle.value.proofs.Decides.{and_parts}
use Rattle.meaning.specs.Bounds.{aggregates_fit, allowed_c, allowed_e, bounded, earlier, every_view, goal_names_relation, in_grouped, in_where, ordered, ranges_fit, same_width, well_formed}
use Rattle.meaning.specs.Lists.{all}
use Rattle.meaning.specs.Syntax.{Cond, Expr, File, Place, View}

pub record Rules (F : File) : Type 0 where
  pub columns : all ordered F.tables ≡ true
  pub earlier-views : every_view earlier F ≡ true
  pub widths : every_view same_width F ≡ true
  pub aggregates : every_view aggregates_fit F ≡ true
  pub bounds : every_view bounded F ≡ true
  pub ranges : every_view ranges_fit F ≡ true
  pub goal : goal_names_relation F F.goal ≡ true

pub rules : (F : File) → well_formed F ≡ true → Rules F
unfolding well_formed
rules F w =
    let a = and_parts (all ordered F.tables) _ w in
    let b = and_parts (every_view earlier F) _ a.1 in
    let c = and_parts (every_view same_width F) _ b.1 in
    let d = and_parts (every_view aggregates_fit F) _ c.1 in
    let e = and_parts (every_view bounded F) _ d.1 in
    let f = and_parts (every_view ranges_fit F) _ e.1 in
    record { columns = a.0; earlier-views = b.0; widths = c.0; aggregates = d.0; bounds = e.0; ranges = f.0; goal = f.1 }

-- the rule on aggregates of an aggregate view, part by part
pub record GroupFits (w : Cond) (gs : List Place) (h : Cond) (es : List Expr) : Type 0 where
  pub condition : allowed_c in_where w ≡ true
  pub having : allowed_c (in_grouped gs) h ≡ true
  pub select : all (allowed_e (in_grouped gs)) es ≡ true

pub group-fits : (w : Cond) (gs : List Place) (h : Cond) (es : List Expr) → aggregates_fit [] (View.grouped [] w gs h es) ≡ true → GroupFits w gs h es
group-fits w gs h es t =
    let a = and_parts (allowed_c in_where w) _ t in
    let b = and_parts (allowed_c (in_grouped gs) h) _ a.1 in
    record { condition = a.0; having = b.0; select = b.1 }
