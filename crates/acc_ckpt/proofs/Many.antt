-- Many of a kind, one behind the other.
use Rattle.std.proofs.Common.{◌≡◌, ℕ, zero, suc, List, [], ◌∷◌, ◌++◌, length, All, Option, Some, refl, ap, subst, ◌∙◌, append_assoc, arith}
use Rattle.std.specs.List.{flat_map}
use Rattle.std.proofs.lemmas.List.Elements.{All-nil, All-cons, All-head, All-tail}
use Rattle.acc_ckpt.specs.Reading.{◌>>=◌, many_at}
use Rattle.acc_ckpt.proofs.Bytes.{IsBytes}
use Rattle.acc_ckpt.proofs.Numbers.{Takes, Takes-then, Reads, bind_some, some_is}

-- so many were read, and they are spelled
pub record TookMany {A : Type 0} (spell : A → List ℕ) (Fits : A → Type 0) (n : ℕ) (bytes : List ℕ) (xs : List A) (rest : List ℕ) : Type 0 where
  pub takes : Takes bytes (flat_map spell xs) rest
  pub count : length xs ≡ n
  pub each : All Fits xs

module _ {A : Type 0} (one : List ℕ → Option (A × List ℕ)) (spell : A → List ℕ) (Fits : A → Type 0) (reads : Reads one spell Fits) where
  pub many_again : (xs : List A) (rest : List ℕ) → All Fits xs → many_at one (length xs) (flat_map spell xs ++ rest) ≡ Some (xs, rest)
  unfolding many_at
  many_again [] rest fits = refl
  many_again (x ∷ xs) rest fits =
      ap (λ (l : List ℕ). many_at one (suc (length xs)) l) (append_assoc (spell x) (flat_map spell xs) rest)
      ∙ ap (λ r. r >>= λ y. many_at one (length xs) y.1 >>= λ ys. Some (y.0 ∷ ys.0, ys.1))
      (reads.again x (flat_map spell xs ++ rest) (All-head Fits x xs fits))
      ∙ ap (λ r. r >>= λ ys. Some (x ∷ ys.0, ys.1)) (many_again xs rest (All-tail Fits x xs fits))

  pub many_takes : (n : ℕ) (bytes : List ℕ) (x : List A × List ℕ) → IsBytes bytes → many_at one n bytes ≡ Some x →
      TookMany spell Fits n bytes x.0 x.1
  unfolding many_at
  many_takes zero bytes x fits e =
      subst (λ (p : List A × List ℕ). TookMany spell Fits 0 bytes p.0 p.1) (some_is ([], bytes) x e)
      (record { takes = record { parts = refl; rest_fits = fits }; count = refl; each = All-nil Fits })
  many_takes (suc n) bytes x fits e =
      let a = bind_some (one bytes) (λ y. many_at one n y.1 >>= λ ys. Some (y.0 ∷ ys.0, ys.1)) x e in
      let t = reads.takes bytes a.0.0 a.0.1 fits a.1 in
      let b = bind_some (many_at one n a.0.1) (λ ys. Some (a.0.0 ∷ ys.0, ys.1)) x a.2 in
      let more = many_takes n a.0.1 b.0 t.0.rest_fits b.1 in
      subst (λ (p : List A × List ℕ). TookMany spell Fits (suc n) bytes p.0 p.1) (some_is (a.0.0 ∷ b.0.0, b.0.1) x b.2) (record {
        takes = Takes-then bytes (spell a.0.0) a.0.1 (flat_map spell b.0.0) b.0.1 t.0 more.takes;
        count = omega (arith, more.count);
        each = All-cons Fits a.0.0 b.0.0 t.1 more.each;
      })
