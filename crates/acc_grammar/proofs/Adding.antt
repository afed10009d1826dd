-- A loop over items that adds to a list what each item stands for.
use Rattle.std.proofs.Common.{◌≡◌, Bool, false, true, List, [], ◌∷◌, ◌++◌, Ok, Err, refl, sym, ap, ◌∙◌, append_assoc}
use Rattle.std.proofs.lemmas.List.{append-nil}
use Rattle.acc_grammar.specs.declared.faults.Fault.{Fault}
use Rattle.acc_grammar.specs.declared.faults.Fault.TheVariants.{Memory, Syntax}
use Rattle.acc_grammar.specs.Readers.{OutcomeOf, ◌>>=◌, joined, many}
use Rattle.acc_grammar.specs.Answers.{Adds}
use Rattle.acc_grammar.proofs.Exact.{ok_is}
use Rattle.acc_grammar.proofs.Many.{Shrinks, many_step, many_err, many_none}

-- what is held, and then what the items stand for that are read
abbrev pub with_items : {S T X : Type 0} → (T → List X) → List X → OutcomeOf S (List T) → OutcomeOf S (List X)
with_items items held read = read >>= λ x. Ok (held ++ joined items x.0, x.1)

regroup : {S T X : Type 0} (items : T → List X) (held : List X) (t : T) (read : OutcomeOf S (List T)) →
    with_items items held (read >>= λ x. Ok (t ∷ x.0, x.1)) ≡ with_items items (held ++ items t) read
regroup {X = X} items held t (Ok x) = ap (λ (xs : List X). Ok (xs, x.1)) (sym (append_assoc held (items t) (joined items x.0)))
regroup items held t (Err f) = refl

stopped : {S T X : Type 0} (items : T → List X) (first : List X) (rest : List S) (read : OutcomeOf S (List T)) →
    with_items items first read ≡ Err rest → read ≡ Err rest
stopped items first rest (Ok x) h = absurd cc
stopped {S} items first rest (Err e) h = let same : e ≡ rest = cc in ap (λ (z : List S). Err z) same

done : {S T X : Type 0} (items : T → List X) (held first : List X) (ws : List S) (read : OutcomeOf S (List T)) →
    with_items items first read ≡ Ok (held, ws) → (ts : List T) × (read ≡ Ok (ts, ws)) × (held ≡ first ++ joined items ts)
done {S = S} {X = X} items held first ws (Ok x) h =
    let one : List X × List S = (first ++ joined items x.0, x.1) in
    let is : one ≡ (held, ws) = ok_is one (held, ws) h in
    (x.0, ap (λ (z : List X × List S). Ok (x.0, z.1)) is, sym (ap (λ (z : List X × List S). z.0) is))
done items held first ws (Err e) h = absurd cc

module _ {S T X : Type 0} (U : Type 0) (items : T → List X) (starts : List S → Bool) (item : List S → OutcomeOf S T)
    (nothing : starts [] ≡ false) where
  -- a further item
  pub adds_on : (short : Shrinks item) (u : U) (held more : List X) (ws rest : List S) (total : OutcomeOf S (List X)) → starts ws ≡ true →
      Adds items (Ok u) held more rest (item ws) → with_items items held (many starts item ws) ≡ total →
      with_items items more (many starts item rest) ≡ total
  adds_on short u held more ws rest total s a so_far =
      ap (λ (xs : List X). with_items items xs (many starts item rest)) a.2 ∙ sym
      (ap (with_items items held) (many_step starts item short nothing ws a.0 rest s a.1) ∙ regroup items held a.0
      (many starts item rest)) ∙ so_far

  -- a fault in an item ends the loop
  pub adds_ends : (fault : Fault) (held more last first : List X) (ws rest start : List S) → starts ws ≡ true →
      Adds {U = U} items (Err fault) held more rest (item ws) →
      with_items items held (many starts item ws) ≡ with_items items first (many starts item start) →
      Adds {U = U} (joined items) (Err fault) first last rest (many starts item start)
  adds_ends Memory held more last first ws rest start s a so_far = tt
  adds_ends Syntax held more last first ws rest start s a so_far =
      stopped items first rest (many starts item start) (sym so_far ∙ ap (with_items items held) (many_err starts item nothing ws rest s a))

  -- no further item starts
  pub adds_all : (u : U) (held first : List X) (ws start : List S) → starts ws ≡ false →
      with_items items held (many starts item ws) ≡ with_items items first (many starts item start) →
      Adds (joined items) (Ok u) first held ws (many starts item start)
  adds_all u held first ws start s so_far =
      done items held first ws (many starts item start)
      (sym so_far ∙ ap (with_items items held) (many_none starts item ws s) ∙ ap (λ (xs : List X). Ok (xs, ws)) (append-nil held))
