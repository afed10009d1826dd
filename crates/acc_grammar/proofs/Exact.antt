-- What makes a reader exact for a spelling, and that the ways to put readers together keep it.
use Rattle.std.proofs.Common.{◌≡◌, Bool, true, false, cond, List, [], ◌∷◌, ◌++◌, Result, Ok, Err, refl, sym, ap, subst, ◌∙◌, append_assoc}
use Rattle.std.proofs.Common.{inl, inr, ◌⊎◌}
use Rattle.acc_grammar.specs.Readers.{AllIn, OutcomeOf, ◌>>=◌}

-- ---- results

pub ok_is : {S A : Type 0} (x y : A) → ◌≡◌ {A = Result A (List S)} (Ok x) (Ok y) → x ≡ y
ok_is x y e = cc

-- a chain that ended: the step's value, and the rest
pub bind_ok : {S A B : Type 0} (r : Result A (List S)) (f : A → Result B (List S)) (y : B) → (r >>= f) ≡ Ok y → (x : A) × (r ≡ Ok x) ×
    (f x ≡ Ok y)
bind_ok (Ok x) f y e = (x, refl, e)
bind_ok (Err d) f y e = absurd cc

-- a chain that stopped: in the step, or behind it
pub bind_err : {S A B : Type 0} (r : Result A (List S)) (f : A → Result B (List S)) (y : List S) → (r >>= f) ≡ Err y → (r ≡ Err y) ⊎
    ((x : A) × (r ≡ Ok x) × (f x ≡ Err y))
bind_err (Ok x) f y e = inr (x, refl, e)
bind_err {S = S} (Err d) f y e = inl (let k : d ≡ y = cc in ap (λ (z : List S). Err z) k)

pub bind_assoc : {S A B C : Type 0} (r : Result A (List S)) (f : A → Result B (List S)) (g : B → Result C (List S)) →
    ((r >>= f) >>= g) ≡ (r >>= (λ x. f x >>= g))
bind_assoc (Ok x) f g = refl
bind_assoc (Err e) f g = refl

-- ---- exact readers

pub AllIn-append : {T : Type 0} (P : T → Type 0) (xs ys : List T) → AllIn P xs → AllIn P ys → AllIn P (xs ++ ys)
AllIn-append P [] ys h k = k
AllIn-append P (x ∷ xs) ys h k = (h.0, AllIn-append P xs ys h.1 k)

-- The reader stopped before rest: the words before it can be completed, and with the next word the reader stops whatever follows.
pub record Stops {S T : Type 0} (Q : S → Type 0) (spell : T → List S) (P : T → Type 0) (read : List S → OutcomeOf S T) (ws rest : List S) :
    Type 0 where
  pub front : List S
  pub split : ws ≡ front ++ rest
  pub more : List S
  pub tree : T
  pub fits : P tree
  pub viable : front ++ more ≡ spell tree
  pub plain : AllIn Q more
  pub stuck : (w : S) (others after : List S) → rest ≡ w ∷ others → read (front ++ (w ∷ after)) ≡ Err (w ∷ after)

-- P: which trees are read; goes t rest: that t may be followed by rest
pub record Exact {S T : Type 0} (Q : S → Type 0) (spell : T → List S) (P : T → Type 0) (goes : T → List S → Type 0) (read : List S →
    OutcomeOf S T) : Type 0 where
  pub takes : (ws : List S) (t : T) (rest : List S) → read ws ≡ Ok (t, rest) → (ws ≡ spell t ++ rest) × P t × goes t rest
  pub again : (t : T) (rest : List S) → P t → goes t rest → read (spell t ++ rest) ≡ Ok (t, rest)
  pub stops : (ws rest : List S) → read ws ≡ Err rest → Stops Q spell P read ws rest
  pub heads : (t : T) (w : S) (more after : List S) → goes t (w ∷ more) → goes t (w ∷ after)
  pub some : T
  pub some_fits : P some
  pub some_plain : AllIn Q (spell some)

abbrev pub All : {T : Type 0} → T → Type 0
All t = Unit {0}

-- anything may follow
abbrev pub Free : {S T : Type 0} → T → List S → Type 0
Free t rest = Unit {0}

-- what follows is judged by its first word
pub heads_behind : {S T : Type 0} {Q : S → Type 0} {spell : T → List S} {P : T → Type 0} {goes : T → List S → Type 0} {read : List S →
    OutcomeOf S T} (e : Exact Q spell P goes read) (t : T) (front : List S) (w : S) (more after : List S) → goes t (front ++ (w ∷ more)) →
    goes t (front ++ (w ∷ after))
heads_behind e t [] w more after h = e.heads t w more after h
heads_behind e t (v ∷ front) w more after h = e.heads t v _ _ h

-- ---- one after the other

abbrev pub seq : {S A B : Type 0} → (List S → OutcomeOf S A) → (List S → OutcomeOf S B) → List S → OutcomeOf S (A × B)
seq a b ws = a ws >>= λ x. b x.1 >>= λ y. Ok ((x.0, y.0), y.1)

abbrev pub both : {S A B : Type 0} → (A → List S) → (B → List S) → A × B → List S
both sa sb p = sa p.0 ++ sb p.1

abbrev pub Each : {A B : Type 0} → (A → Type 0) → (B → Type 0) → A × B → Type 0
Each P R p = P p.0 × R p.1

abbrev pub Next : {S A B : Type 0} → (B → List S) → (A → List S → Type 0) → (B → List S → Type 0) → A × B → List S → Type 0
Next sb ga gb p rest = ga p.0 (sb p.1 ++ rest) × gb p.1 rest

module _ {S A B : Type 0} {Q : S → Type 0} {sa : A → List S} {P : A → Type 0} {ga : A → List S → Type 0} {ra : List S → OutcomeOf S A}
    {sb : B → List S} {R : B → Type 0} {gb : B → List S → Type 0} {rb : List S → OutcomeOf S B} (ea : Exact Q sa P ga ra)
    (eb : Exact Q sb R gb rb) where
  seq_takes : (ws : List S) (t : A × B) (rest : List S) → seq ra rb ws ≡ Ok (t, rest) → (ws ≡ both sa sb t ++ rest) × Each P R t ×
      Next sb ga gb t rest
  seq_takes ws t rest e =
      let x = bind_ok (ra ws) (λ x. rb x.1 >>= λ y. Ok ((x.0, y.0), y.1)) (t, rest) e in
      let y = bind_ok (rb x.0.1) (λ y. Ok ((x.0.0, y.0), y.1)) (t, rest) x.2 in
      let ta = ea.takes ws x.0.0 x.0.1 x.1 in
      let tb = eb.takes x.0.1 y.0.0 y.0.1 y.1 in
      let made : (A × B) × List S = ((x.0.0, y.0.0), y.0.1) in
      let whole : ws ≡ both sa sb made.0 ++ made.1 =
      ta.0 ∙ ap (λ (z : List S). sa x.0.0 ++ z) tb.0 ∙ sym (append_assoc (sa x.0.0) (sb y.0.0) y.0.1) in
      subst (λ (z : (A × B) × List S). (ws ≡ both sa sb z.0 ++ z.1) × Each P R z.0 × Next sb ga gb z.0 z.1) (ok_is made (t, rest) y.2)
      (whole, (ta.1, tb.1), (subst (ga x.0.0) tb.0 ta.2, tb.2))

  seq_again : (t : A × B) (rest : List S) → Each P R t → Next sb ga gb t rest → seq ra rb (both sa sb t ++ rest) ≡ Ok (t, rest)
  seq_again t rest p g =
      let first : ra (sa t.0 ++ (sb t.1 ++ rest)) ≡ Ok (t.0, sb t.1 ++ rest) = ea.again t.0 (sb t.1 ++ rest) p.0 g.0 in
      let second : rb (sb t.1 ++ rest) ≡ Ok (t.1, rest) = eb.again t.1 rest p.1 g.1 in
      ap (seq ra rb) (append_assoc (sa t.0) (sb t.1) rest) ∙ rw (first, second) refl

  seq_stops : (ws rest : List S) → seq ra rb ws ≡ Err rest → Stops Q (both sa sb) (Each P R) (seq ra rb) ws rest
  seq_stops ws rest e =
      elim (bind_err (ra ws) (λ x. rb x.1 >>= λ y. Ok ((x.0, y.0), y.1)) rest e) [
        | inl h ↦ (let s = ea.stops ws rest h in record {
          front = s.front;
          split = s.split;
          more = s.more ++ sb eb.some;
          tree = (s.tree, eb.some);
          fits = (s.fits, eb.some_fits);
          viable = sym (append_assoc s.front s.more (sb eb.some)) ∙ ap (λ (z : List S). z ++ sb eb.some) s.viable;
          plain = AllIn-append Q s.more (sb eb.some) s.plain eb.some_plain;
          stuck = λ w others after is. rw (s.stuck w others after is) refl;
        })
        | inr h ↦ elim (bind_err (rb h.0.1) (λ y. Ok ((h.0.0, y.0), y.1)) rest h.2) [
          | inl k ↦ (let s = eb.stops h.0.1 rest k in let t = ea.takes ws h.0.0 h.0.1 h.1 in record {
            front = sa h.0.0 ++ s.front;
            split = t.0 ∙ ap (λ (z : List S). sa h.0.0 ++ z) s.split ∙ sym (append_assoc (sa h.0.0) s.front rest);
            more = s.more;
            tree = (h.0.0, s.tree);
            fits = (t.1, s.fits);
            viable = append_assoc (sa h.0.0) s.front s.more ∙ ap (λ (z : List S). sa h.0.0 ++ z) s.viable;
            plain = s.plain;
            stuck = λ w others after is.
                let here : ga h.0.0 (s.front ++ (w ∷ others)) = subst (ga h.0.0) (s.split ∙ ap (λ (z : List S). s.front ++ z) is) t.2 in
                let first : ra (sa h.0.0 ++ (s.front ++ (w ∷ after))) ≡ Ok (h.0.0, s.front ++ (w ∷ after)) =
                ea.again h.0.0 (s.front ++ (w ∷ after)) t.1 (heads_behind ea h.0.0 s.front w others after here) in
                ap (seq ra rb) (append_assoc (sa h.0.0) s.front (w ∷ after)) ∙ rw (first, s.stuck w others after is) refl;
          })
          | inr k ↦ absurd (let wrong = k.2 in cc)
        ]
      ]

  pub seq_exact : Exact Q (both sa sb) (Each P R) (Next sb ga gb) (seq ra rb)
  seq_exact = record {
    takes = seq_takes;
    again = seq_again;
    stops = seq_stops;
    heads =
        λ t w more after h. (heads_behind ea t.0 (sb t.1) w more after h.0, eb.heads t.1 w more after h.1);
    some = (ea.some, eb.some);
    some_fits = (ea.some_fits, eb.some_fits);
    some_plain = AllIn-append Q (sa ea.some) (sb eb.some) ea.some_plain eb.some_plain;
  }

-- ---- as a part of a larger tree

abbrev pub made : {S A B : Type 0} → (A → B) → (List S → OutcomeOf S A) → List S → OutcomeOf S B
made f r ws = r ws >>= λ x. Ok (f x.0, x.1)

-- the trees that f makes
abbrev pub Made : {A B : Type 0} → (A → B) → (A → Type 0) → B → Type 0
Made f P b = (a : _) × P a × (f a ≡ b)

module _ {S A B : Type 0} {Q : S → Type 0} {sa : A → List S} {P : A → Type 0} {ga : A → List S → Type 0} {ra : List S → OutcomeOf S A}
    (ea : Exact Q sa P ga ra) (f : A → B) (sb : B → List S) (gb : B → List S → Type 0) (same : (a : A) → P a → sb (f a) ≡ sa a)
    (from : (a : A) (rest : List S) → ga a rest → gb (f a) rest) (to : (a : A) (rest : List S) → P a → gb (f a) rest → ga a rest) where
  made_takes : (ws : List S) (t : B) (rest : List S) → made f ra ws ≡ Ok (t, rest) → (ws ≡ sb t ++ rest) × Made f P t × gb t rest
  made_takes ws t rest e =
      let x = bind_ok (ra ws) (λ x. Ok (f x.0, x.1)) (t, rest) e in
      let h = ea.takes ws x.0.0 x.0.1 x.1 in
      let one : B × List S = (f x.0.0, x.0.1) in
      let whole : ws ≡ sb (f x.0.0) ++ x.0.1 = h.0 ∙ ap (λ (z : List S). z ++ x.0.1) (sym (same x.0.0 h.1)) in
      let is : Made f P (f x.0.0) = (x.0.0, h.1, refl) in
      subst (λ (z : B × List S). (ws ≡ sb z.0 ++ z.1) × Made f P z.0 × gb z.0 z.1) (ok_is one (t, rest) x.2) (
        whole,
        is,
        from x.0.0 x.0.1 h.2,
      )

  made_again_at : (a : A) (rest : List S) → P a → gb (f a) rest → made f ra (sb (f a) ++ rest) ≡ Ok (f a, rest)
  made_again_at a rest p g =
      let first : ra (sa a ++ rest) ≡ Ok (a, rest) = ea.again a rest p (to a rest p g) in
      ap (λ (z : List S). made f ra (z ++ rest)) (same a p) ∙ rw first refl

  made_again : (t : B) (rest : List S) → Made f P t → gb t rest → made f ra (sb t ++ rest) ≡ Ok (t, rest)
  made_again t rest p =
      subst (λ (z : B). gb z rest → made f ra (sb z ++ rest) ≡ Ok (z, rest)) p.2 (λ g. made_again_at p.0 rest p.1 g)

  made_stops : (ws rest : List S) → made f ra ws ≡ Err rest → Stops Q sb (Made f P) (made f ra) ws rest
  made_stops ws rest e =
      elim (bind_err (ra ws) (λ x. Ok (f x.0, x.1)) rest e) [
        | inl h ↦ (let s = ea.stops ws rest h in record {
          front = s.front;
          split = s.split;
          more = s.more;
          tree = f s.tree;
          fits = (s.tree, s.fits, refl);
          viable = s.viable ∙ sym (same s.tree s.fits);
          plain = s.plain;
          stuck = λ w others after is. rw (s.stuck w others after is) refl;
        })
        | inr h ↦ absurd (let wrong = h.2 in cc)
      ]

  made_heads : ((b : B) (w : S) (more after : List S) → gb b (w ∷ more) → gb b (w ∷ after)) → Exact Q sb (Made f P) gb (made f ra)
  made_heads heads = record {
    takes = made_takes;
    again = made_again;
    stops = made_stops;
    heads = heads;
    some = f ea.some;
    some_fits =
        (ea.some, ea.some_fits, refl);
    some_plain = subst (AllIn Q) (sym (same ea.some ea.some_fits)) ea.some_plain;
  }

pub made_exact : {S A B : Type 0} {Q : S → Type 0} {sa : A → List S} {P : A → Type 0} {ga : A → List S → Type 0} {ra : List S →
    OutcomeOf S A} (ea : Exact Q sa P ga ra) (f : A → B) (sb : B → List S) (gb : B → List S → Type 0) (same : (a : A) → P a →
    sb (f a) ≡ sa a) (from : (a : A) (rest : List S) → ga a rest → gb (f a) rest) (to : (a : A) (rest : List S) → P a → gb (f a) rest →
    ga a rest) (heads : (b : B) (w : S) (more after : List S) → gb b (w ∷ more) → gb b (w ∷ after)) → Exact Q sb (Made f P) gb (made f ra)
made_exact ea f sb gb same from to heads = made_heads ea f sb gb same from to heads

-- the trees that are read, said otherwise
pub trees_exact : {S T : Type 0} {Q : S → Type 0} {spell : T → List S} {P R : T → Type 0} {goes : T → List S → Type 0} {read : List S →
    OutcomeOf S T} → Exact Q spell P goes read → ((t : T) → P t → R t) → ((t : T) → R t → P t) → Exact Q spell R goes read
trees_exact e from to = record {
  takes = λ ws t rest h. let k = e.takes ws t rest h in (k.0, from t k.1, k.2);
  again = λ t rest q g. e.again t rest (to t q) g;
  stops = λ ws rest h. let s = e.stops ws rest h in
      record {
        front = s.front;
        split = s.split;
        more = s.more;
        tree = s.tree;
        fits = from s.tree s.fits;
        viable = s.viable;
        plain =
            s.plain;
        stuck = s.stuck;
      };
  heads = e.heads;
  some = e.some;
  some_fits = from e.some e.some_fits;
  some_plain = e.some_plain;
}

-- a reader that does the same
pub same_exact : {S T : Type 0} {Q : S → Type 0} {spell : T → List S} {P : T → Type 0} {goes : T → List S → Type 0} {r q : List S →
    OutcomeOf S T} → ((ws : List S) → q ws ≡ r ws) → Exact Q spell P goes r → Exact Q spell P goes q
same_exact {S = S} {spell = spell} {P = P} {r = r} {q = q} same e = record {
  takes = λ ws t rest h. e.takes ws t rest (sym (same ws) ∙ h);
  again = λ t rest p g. same (spell t ++ rest) ∙ e.again t rest p g;
  stops = λ ws rest h. let s = e.stops ws rest (sym (same ws) ∙ h) in
      record {
        front = s.front;
        split = s.split;
        more = s.more;
        tree = s.tree;
        fits = s.fits;
        viable = s.viable;
        plain = s.plain;
        stuck =
            λ w others after is. same (s.front ++ (w ∷ after)) ∙ s.stuck w others after is;
      };
  heads = e.heads;
  some = e.some;
  some_fits = e.some_fits;
  some_plain = e.some_plain;
}

-- ---- one or the other, by the next word

abbrev pub either : {S T : Type 0} → (List S → Bool) → (List S → OutcomeOf S T) → (List S → OutcomeOf S T) → List S → OutcomeOf S T
either test a b ws = cond (test ws) (a ws) (b ws)

abbrev pub Or : {T : Type 0} → (T → Type 0) → (T → Type 0) → T → Type 0
Or P R t = P t ⊎ R t

-- a test of the next word
abbrev pub ByHead : {S : Type 0} → (List S → Bool) → Type 0
ByHead {S} test = (w : S) (more after : List S) → test (w ∷ more) ≡ test (w ∷ after)

pub chosen : {X : Type 0} (b : Bool) (x y z : X) → cond b x y ≡ z → ((b ≡ true) × (x ≡ z)) ⊎ ((b ≡ false) × (y ≡ z))
chosen true x y z e = inl (refl, e)
chosen false x y z e = inr (refl, e)

pub test_behind : {S : Type 0} (test : List S → Bool) → ByHead test → (front : List S) (w : S) (others after : List S) →
    test (front ++ (w ∷ others)) ≡ test (front ++ (w ∷ after))
test_behind test head [] w others after = head w others after
test_behind test head (v ∷ front) w others after = head v _ _

module _ {S T : Type 0} {Q : S → Type 0} {spell : T → List S} {P R : T → Type 0} {goes : T → List S → Type 0} {ra rb : List S →
    OutcomeOf S T} (ea : Exact Q spell P goes ra) (eb : Exact Q spell R goes rb) (test : List S → Bool) (head : ByHead test)
    (yes : (t : T) (rest : List S) → P t → goes t rest → test (spell t ++ rest) ≡ true) (no : (t : T) (rest : List S) → R t → goes t rest →
    test (spell t ++ rest) ≡ false) where
  either_takes : (ws : List S) (t : T) (rest : List S) → either test ra rb ws ≡ Ok (t, rest) → (ws ≡ spell t ++ rest) × Or P R t ×
      goes t rest
  either_takes ws t rest e =
      elim (chosen (test ws) (ra ws) (rb ws) (Ok (t, rest)) e) [
        | inl h ↦ (let k = ea.takes ws t rest h.1 in (k.0, inl k.1, k.2))
        | inr h ↦ (let k = eb.takes ws t rest h.1 in (k.0, inr k.1, k.2))
      ]

  either_again : (t : T) (rest : List S) → Or P R t → goes t rest → either test ra rb (spell t ++ rest) ≡ Ok (t, rest)
  either_again t rest (inl p) g = rw (yes t rest p g) (ea.again t rest p g)
  either_again t rest (inr q) g = rw (no t rest q g) (eb.again t rest q g)

  either_stops : (ws rest : List S) → either test ra rb ws ≡ Err rest → Stops Q spell (Or P R) (either test ra rb) ws rest
  either_stops ws rest e =
      elim (chosen (test ws) (ra ws) (rb ws) (Err rest) e) [
        | inl h ↦ (let s = ea.stops ws rest h.1 in record {
          front = s.front;
          split = s.split;
          more = s.more;
          tree = s.tree;
          fits = inl s.fits;
          viable = s.viable;
          plain = s.plain;
          stuck = λ w others after is.
              let t : test (s.front ++ (w ∷ after)) ≡ true =
              sym (test_behind test head s.front w others after) ∙ sym (ap test (s.split ∙ ap (λ (z : List S). s.front ++ z) is)) ∙
              h.0 in
              rw t (s.stuck w others after is);
        })
        | inr h ↦ (let s = eb.stops ws rest h.1 in record {
          front = s.front;
          split = s.split;
          more = s.more;
          tree = s.tree;
          fits = inr s.fits;
          viable = s.viable;
          plain = s.plain;
          stuck = λ w others after is.
              let t : test (s.front ++ (w ∷ after)) ≡ false =
              sym (test_behind test head s.front w others after) ∙ sym (ap test (s.split ∙ ap (λ (z : List S). s.front ++ z) is)) ∙
              h.0 in
              rw t (s.stuck w others after is);
        })
      ]

  pub either_exact : Exact Q spell (Or P R) goes (either test ra rb)
  either_exact = record {
    takes = either_takes;
    again = either_again;
    stops = either_stops;
    heads = ea.heads;
    some = ea.some;
    some_fits =
        inl ea.some_fits;
    some_plain = ea.some_plain;
  }

-- ---- a part that may be left out

abbrev pub maybe : {S T : Type 0} → (List S → Bool) → (List S → OutcomeOf S T) → T → List S → OutcomeOf S T
maybe test a none ws = cond (test ws) (a ws) (Ok (none, ws))

module _ {S T : Type 0} {Q : S → Type 0} {spell : T → List S} {P : T → Type 0} {goes : T → List S → Type 0} {ra : List S → OutcomeOf S T}
    (ea : Exact Q spell P goes ra) (test : List S → Bool) (head : ByHead test) (none : T) (empty : spell none ≡ [])
    (yes : (t : T) (rest : List S) → P t → goes t rest → test (spell t ++ rest) ≡ true) (to : (rest : List S) → test rest ≡ false →
    goes none rest) (from : (rest : List S) → goes none rest → test rest ≡ false) where
  maybe_takes : (ws : List S) (t : T) (rest : List S) → maybe test ra none ws ≡ Ok (t, rest) → (ws ≡ spell t ++ rest) ×
      Or P (λ (u : T). none ≡ u) t × goes t rest
  maybe_takes ws t rest e =
      elim (chosen (test ws) (ra ws) (Ok (none, ws)) (Ok (t, rest)) e) [
        | inl h ↦ (let k = ea.takes ws t rest h.1 in (k.0, inl k.1, k.2))
        | inr h ↦ (let one : T × List S = (none, ws) in
            subst (λ (z : T × List S). (ws ≡ spell z.0 ++ z.1) × Or P (λ (u : T). none ≡ u) z.0 × goes z.0 z.1) (ok_is one (t, rest) h.1)
            (ap (λ (z : List S). z ++ ws) (sym empty), inr refl, to ws h.0))
      ]

  maybe_none : (rest : List S) → goes none rest → maybe test ra none (spell none ++ rest) ≡ Ok (none, rest)
  maybe_none rest g = ap (λ (z : List S). maybe test ra none (z ++ rest)) empty ∙ rw (from rest g) refl

  maybe_again : (t : T) (rest : List S) → Or P (λ (u : T). none ≡ u) t → goes t rest → maybe test ra none (spell t ++ rest) ≡ Ok (t, rest)
  maybe_again t rest (inl p) g = rw (yes t rest p g) (ea.again t rest p g)
  maybe_again t rest (inr e) g = (subst (λ (z : T). goes z rest → maybe test ra none (spell z ++ rest) ≡ Ok (z, rest)) e (maybe_none rest))
      g

  maybe_stops : (ws rest : List S) → maybe test ra none ws ≡ Err rest →
      Stops Q spell (Or P (λ (u : T). none ≡ u)) (maybe test ra none) ws rest
  maybe_stops ws rest e =
      elim (chosen (test ws) (ra ws) (Ok (none, ws)) (Err rest) e) [
        | inl h ↦ (let s = ea.stops ws rest h.1 in record {
          front = s.front;
          split = s.split;
          more = s.more;
          tree = s.tree;
          fits = inl s.fits;
          viable = s.viable;
          plain = s.plain;
          stuck = λ w others after is.
              let t : test (s.front ++ (w ∷ after)) ≡ true =
              sym (test_behind test head s.front w others after) ∙ sym (ap test (s.split ∙ ap (λ (z : List S). s.front ++ z) is)) ∙
              h.0 in
              rw t (s.stuck w others after is);
        })
        | inr h ↦ absurd (let wrong = h.1 in cc)
      ]

  pub maybe_exact : Exact Q spell (Or P (λ (u : T). none ≡ u)) goes (maybe test ra none)
  maybe_exact = record {
    takes = maybe_takes;
    again = maybe_again;
    stops = maybe_stops;
    heads = ea.heads;
    some = ea.some;
    some_fits =
        inl ea.some_fits;
    some_plain = ea.some_plain;
  }
