-- A database is valid where the tests of its keys say so. Assumes nothing.
use mathlib.Core.Path.{◌≡◌, refl, sym, ap₂, ◌∙◌}
use mathlib.Core.Bool.{Bool, true, false, ◌&&◌}
use mathlib.Core.List.{List}
use Prim.Native.Nat.{ℕ}
use lib.IntN.{ℤ}
use Rattle.value.proofs.Decides.{true-dec}
use Rattle.meaning.specs.Lists.{all, each}
use Rattle.meaning.specs.Syntax.{File, Database}
use Rattle.meaning.specs.Valid.{Shaped}
use Rattle.meaning.specs.Decided.{foreign_key_holds, key_holds, valid}
use Rattle.meaning.proofs.DecidedValidity.{shaped-dec}
use Rattle.catalog.specs.FileIn.{Source}
use Rattle.cases.specs.Validity.{keys_in, foreign_keys_in, valid_in, IsValid}
use Rattle.cases.proofs.KeyLaws.{keys-told}
use Rattle.cases.proofs.ForeignLaws.{foreigns-told}

valid-is : (F : File) (d : Database) → Shaped F d → valid F d ≡ (each key_holds F.tables d && all (foreign_key_holds d) F.keys)
unfolding valid
valid-is F d sh = rw (true-dec (shaped-dec F d) sh)

module _ {source : Source} {counts : List ℕ} {work : List ℤ} where
  told : {k f : Bool} → k ≡ keys_in source.relations counts work source.outline.tables
      → f ≡ foreign_keys_in source.bytes source.outline.foreign source.outline.keys counts work → {r : Bool} → r ≡ (k && f) → IsValid source counts work r
  unfolding valid_in
  told ek ef e = record {
    here = e ∙ ap₂ (λ (a b : Bool). a && b) ek ef;
    is-valid = λ {F} {d} G sh s.
        let (rest, at) = G.foreign in
        e ∙ ap₂ (λ (a b : Bool). a && b) (ek ∙ keys-told G sh s)
        (ef ∙ foreigns-told F d source.bytes source.outline.foreign source.outline.keys counts work F.keys rest at G.keys G.legal.keys s)
        ∙ sym (valid-is F d sh);
  }

  pub invalid-keys : {k : Bool} → k ≡ keys_in source.relations counts work source.outline.tables → k ≡ false → IsValid source counts work k
  invalid-keys ek z = told ek refl (rw z)

  pub valid-both : {k f : Bool} → k ≡ keys_in source.relations counts work source.outline.tables → k ≡ true
      → f ≡ foreign_keys_in source.bytes source.outline.foreign source.outline.keys counts work → IsValid source counts work f
  valid-both ek z ef = told ek ef (rw z)
