-- Where all nodes pass, no open branch can be true.
use Rattle.std.proofs.Common.{◌≡◌, ℕ, ◌+◌, true, List, [], ◌∷◌, ◌++◌, map, refl}
use Rattle.std.specs.Prelude.{⊤, ℤ}
use Rattle.acc_base.specs.declared.tables.Row.{Row}
use Rattle.acc_base.specs.declared.forms.Rel.{Rel}
use Rattle.acc_base.specs.declared.designs.Design.{Design}
use Rattle.acc_base.specs.declared.sequents.Sequent.{Sequent}
use Rattle.acc_axioms.specs.declared.nodes.Node.{Node}
use Rattle.acc_proof.specs.Checked.{Checked, Gives, Fails, TooWide}
use Rattle.acc_proof.specs.Proofs.{Branches, node_of, Verdict, Proved, go_on, walked}
use Rattle.acc_axioms.specs.Truths.{all_true}

module _ (d : Design) (q : Sequent) (db : List Row) (env : List ℤ) where
  abbrev pub IsOff : List Rel → Type 0
  IsOff known = all_true db env known ≡ true → ⊥

  abbrev pub AreOff : List (List Rel) → Type 0
  AreOff [] = ⊤
  AreOff (k ∷ ks) = IsOff k × AreOff ks

  off_front : (xs ys : List (List Rel)) → AreOff (xs ++ ys) → AreOff xs
  off_front [] ys h = tt
  off_front (x ∷ xs) ys h = (h.0, off_front xs ys h.1)

  off_back : (xs ys : List (List Rel)) → AreOff (xs ++ ys) → AreOff ys
  off_back [] ys h = h
  off_back (x ∷ xs) ys h = off_back xs ys h.1

  -- a node is sound: where all its branches are off, so is what is known before it
  abbrev pub NodesSound : Type 0
  NodesSound =
      (known : List Rel) (n : Node) (bs : Branches) → node_of d q known n ≡ Gives bs → AreOff (map (λ b. known ++ b) bs) → IsOff known

  gives : (i : ℕ) (f : Branches → Verdict) (o : Checked Branches) → go_on i f o ≡ Proved → (bs : Branches) × (o ≡ Gives bs)
      × (f bs ≡ Proved)
  gives i f (Gives bs) h = (bs, refl, h)
  gives i f Fails h = absurd (cc)
  gives i f TooWide h = absurd (cc)

  pub all_off : NodesSound → (i : ℕ) (ns : List Node) (open_ : List (List Rel)) → walked d q i ns open_ ≡ Proved → AreOff open_
  all_off sound i [] [] h = tt
  all_off sound i [] (k ∷ ks) h = absurd (cc)
  all_off sound i (n ∷ ns) [] h = absurd (cc)
  all_off sound i (n ∷ ns) (k ∷ ks) h =
      let parts = gives i (λ bs. walked d q (i + 1) ns (map (λ b. k ++ b) bs ++ ks)) (node_of d q k n) h in
      let rest = all_off sound (i + 1) ns (map (λ b. k ++ b) parts.0 ++ ks) parts.2 in
      (sound k n parts.0 parts.1 (off_front (map (λ b. k ++ b) parts.0) ks rest), off_back (map (λ b. k ++ b) parts.0) ks rest)
