-- Further ways to put exact readers together, over any signs.
use Rattle.std.proofs.Common.{◌≡◌, Bool, true, false, List, [], ◌∷◌, ◌++◌, Ok, Err, sym, ap, subst, ◌∙◌, inl, inr}
use Rattle.acc_grammar.specs.Readers.{AllIn, OutcomeOf}
use Rattle.acc_grammar.proofs.Exact.{ok_is, Stops, Exact, All, Free, made, Made, made_exact, either, Or, ByHead, chosen, test_behind}
use Rattle.acc_grammar.proofs.Many.{Runs}

-- a part of a larger tree that anything may follow
pub made_free : {S A B : Type 0} {Q : S → Type 0} {sa : A → List S} {P : A → Type 0} {ga : A → List S → Type 0} {ra : List S →
    OutcomeOf S A} (ea : Exact Q sa P ga ra) (f : A → B) (sb : B → List S) (same : (a : A) → P a → sb (f a) ≡ sa a)
    (to : (a : A) (rest : List S) → ga a rest) → Exact Q sb (Made f P) Free (made f ra)
made_free ea f sb same to = made_exact ea f sb Free same (λ a rest g. tt) (λ a rest p g. to a rest) (λ b w more after g. tt)

-- a list of any trees
pub all_in : {T : Type 0} (ts : List T) → AllIn All ts
all_in [] = tt
all_in (t ∷ ts) = (tt, all_in ts)

-- trees that anything may follow, up to where none starts
pub runs_end : {S T : Type 0} (spell : T → List S) (starts : List S → Bool) (ts : List T) (rest : List S) → starts rest ≡ false →
    Runs spell starts Free ts rest
runs_end spell starts [] rest h = h
runs_end spell starts (t ∷ ts) rest h = (tt, runs_end spell starts ts rest h)

-- what a reader reads that never stops where the test passes
abbrev pub Sure : {S T : Type 0} → (T → List S) → (T → Type 0) → (T → List S → Type 0) → (List S → OutcomeOf S T) → List S → Type 0
Sure {S} {T} spell P goes read ws = (x : T × List S) × (read ws ≡ Ok x) × (ws ≡ spell x.0 ++ x.1) × P x.0 × goes x.0 x.1

-- a reader that never stops where the test passes, or another one: no text has to be completed with what the first reads
module _ {S T : Type 0} {Q : S → Type 0} {spell : T → List S} {P R : T → Type 0} {goes : T → List S → Type 0} {ra rb : List S →
    OutcomeOf S T} (test : List S → Bool) (head : ByHead test) (sure : (ws : List S) → test ws ≡ true → Sure spell P goes ra ws)
    (again : (t : T) (rest : List S) → P t → goes t rest → ra (spell t ++ rest) ≡ Ok (t, rest)) (eb : Exact Q spell R goes rb)
    (yes : (t : T) (rest : List S) → P t → goes t rest → test (spell t ++ rest) ≡ true) (no : (t : T) (rest : List S) → R t → goes t rest →
    test (spell t ++ rest) ≡ false) where
  sure_takes : (ws : List S) (t : T) (rest : List S) → either test ra rb ws ≡ Ok (t, rest) → (ws ≡ spell t ++ rest) × Or P R t × goes t rest
  sure_takes ws t rest e =
      elim (chosen (test ws) (ra ws) (rb ws) (Ok (t, rest)) e) [
        | inl h ↦ (let k = sure ws h.0 in subst (λ (z : T × List S). (ws ≡ spell z.0 ++ z.1) × Or P R z.0 × goes z.0 z.1)
            (ok_is k.0 (t, rest) (sym k.1 ∙ h.1)) (k.2, inl k.3, k.4))
        | inr h ↦ (let k = eb.takes ws t rest h.1 in (k.0, inr k.1, k.2))
      ]

  sure_again : (t : T) (rest : List S) → Or P R t → goes t rest → either test ra rb (spell t ++ rest) ≡ Ok (t, rest)
  sure_again t rest (inl p) g = rw (yes t rest p g) (again t rest p g)
  sure_again t rest (inr q) g = rw (no t rest q g) (eb.again t rest q g)

  sure_stops : (ws rest : List S) → either test ra rb ws ≡ Err rest → Stops Q spell (Or P R) (either test ra rb) ws rest
  sure_stops ws rest e =
      elim (chosen (test ws) (ra ws) (rb ws) (Err rest) e) [
        | inl h ↦ absurd (let k = sure ws h.0 in let wrong = sym k.1 ∙ h.1 in cc)
        | inr h ↦ (let s = eb.stops ws rest h.1 in record {
          front = s.front;
          split = s.split;
          more = s.more;
          tree = s.tree;
          fits = inr s.fits;
          viable = s.viable;
          plain = s.plain;
          stuck = λ w others after is.
              let t : test (s.front ++ (w ∷ after)) ≡ false =
              sym (test_behind test head s.front w others after) ∙ sym (ap test (s.split ∙ ap (λ (z : List S). s.front ++ z) is)) ∙
              h.0 in
              rw t (s.stuck w others after is);
        })
      ]

  pub sure_exact : Exact Q spell (Or P R) goes (either test ra rb)
  sure_exact = record {
    takes = sure_takes;
    again = sure_again;
    stops = sure_stops;
    heads = eb.heads;
    some = eb.some;
    some_fits =
        inr eb.some_fits;
    some_plain = eb.some_plain;
  }
