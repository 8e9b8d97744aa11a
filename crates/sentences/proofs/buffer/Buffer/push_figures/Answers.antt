-- `sentences::buffer::Buffer::push_figures` meets its contract. Assumes nothing.
use mathlib.Core.List.{◌++◌}
use mathlib.Core.Path.{sym, ap, ◌∙◌}
use native.Mathlib.Omega.{arith}
use Prim.Native.Nat.{◌/◌}
use Rattle.std.proofs.Common.{rules}
use lib.ListN.{length, length-append}
use Rattle.sentences.proofs.FigureLaws.{last_of, by-place, long-by-place, behind}
use Rattle.sentences.proofs.buffer.Buffer.push_figures.Goals as goal

pub push_figure-requires : goal.push_figure-requires
push_figure-requires g c = (search rules, omega (arith, c.requires, long-by-place c.args.n (omega arith)))

pub push_figure-requires-2 : goal.push_figure-requires-2
push_figure-requires-2 g c =
    let a = c.args in
    let one = ap length c.push_figure.ensures ∙ length-append a.self.now (last_of (a.n / 10000)) in
    (search rules, omega (arith, c.requires, long-by-place a.n (omega arith), one))

pub push_figure-requires-3 : goal.push_figure-requires-3
push_figure-requires-3 g c =
    let a = c.args in
    let one = ap length c.push_figure.ensures ∙ length-append a.self.now (last_of (a.n / 10000)) in
    let two = ap length c.push_figure-2.ensures ∙ length-append c.push_figure.new.self (last_of (a.n / 1000)) in
    (search rules, omega (arith, c.requires, long-by-place a.n (omega arith), one, two))

pub push_figure-requires-4 : goal.push_figure-requires-4
push_figure-requires-4 g c =
    let a = c.args in
    let one = ap length c.push_figure.ensures ∙ length-append a.self.now (last_of (a.n / 10000)) in
    let two = ap length c.push_figure-2.ensures ∙ length-append c.push_figure.new.self (last_of (a.n / 1000)) in
    let three = ap length c.push_figure-3.ensures ∙ length-append c.push_figure-2.new.self (last_of (a.n / 100)) in
    (search rules, omega (arith, c.requires, long-by-place a.n (omega arith), one, two, three))

pub push-requires : goal.push-requires
push-requires g c =
    let a = c.args in
    let one = ap length c.push_figure.ensures ∙ length-append a.self.now (last_of (a.n / 10000)) in
    let two = ap length c.push_figure-2.ensures ∙ length-append c.push_figure.new.self (last_of (a.n / 1000)) in
    let three = ap length c.push_figure-3.ensures ∙ length-append c.push_figure-2.new.self (last_of (a.n / 100)) in
    let four = ap length c.push_figure-4.ensures ∙ length-append c.push_figure-3.new.self (last_of (a.n / 10)) in
    (search rules, omega (arith, c.requires, long-by-place a.n (omega arith), one, two, three, four))

pub returns : goal.returns
returns g c =
    let a = c.args in
    let one = c.push_figure.ensures in
    let two = behind a.self.now (last_of (a.n / 10000)) (last_of (a.n / 1000)) c.push_figure-2.ensures one in
    let three = behind a.self.now _ (last_of (a.n / 100)) c.push_figure-3.ensures two in
    let four = behind a.self.now _ (last_of (a.n / 10)) c.push_figure-4.ensures three in
    behind a.self.now _ _ c.push.ensures four ∙ ap (λ l. a.self.now ++ l) (sym (by-place a.n _ (omega arith) (omega arith)))
