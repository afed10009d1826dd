-- Items as long as one starts, as a row: the reader is exact for the rows in which no item runs into what is spelled behind it.
use Rattle.std.proofs.Common.{◌≡◌, ℕ, zero, suc, ◌<◌, Bool, true, false, List, [], ◌∷◌, ◌++◌, length, Ok, Err, refl, sym, ap, subst, ◌∙◌}
use Rattle.std.proofs.Common.{append_assoc, arith, inl, inr}
use Rattle.std.proofs.lemmas.List.{append-nil, append_cancel_right}
use Rattle.acc_grammar.specs.Readers.{AllIn, OutcomeOf, ◌>>=◌, joined, item_and, many_for, many}
use Rattle.acc_grammar.specs.Runs.{IsRow}
use Rattle.acc_grammar.proofs.Exact.{bind_err, Stops, Exact, ByHead, chosen}
use Rattle.acc_grammar.proofs.Many.{Runs, many_exact}

-- none starts behind the row
abbrev pub Closed : {S T : Type 0} → (List S → Bool) → List T → List S → Type 0
Closed starts ts rest = starts rest ≡ false

module _ {S T : Type 0} {Q : S → Type 0} {spell : T → List S} {P : T → Type 0} {goes : T → List S → Type 0} {item : List S → OutcomeOf S T}
    (e : Exact Q spell P goes item) (starts : List S → Bool) (head : ByHead starts) (nothing : starts [] ≡ false)
    (yes : (t : T) (rest : List S) → P t → goes t rest → starts (spell t ++ rest) ≡ true) (long : (t : T) → P t → 0 < length (spell t))
    (out : (t : T) (rest : List S) → P t → starts rest ≡ false → goes t rest) where
  -- what may follow an item is judged by its first sign, or there is none
  near : (t : T) (front rest : List S) → P t → goes t (front ++ rest) → goes t front
  near t [] rest p g = out t [] p nothing
  near t (w ∷ front) rest p g = e.heads t w (front ++ rest) front g

  far : (t : T) (front rest : List S) → P t → starts rest ≡ false → goes t front → goes t (front ++ rest)
  far t [] rest p s g = out t rest p s
  far t (w ∷ front) rest p s g = e.heads t w front (front ++ rest) g

  row_of : (ts : List T) (rest : List S) → AllIn P ts → Runs spell starts goes ts rest → IsRow spell P goes ts × Closed starts ts rest
  row_of [] rest p g = (tt, g)
  row_of (t ∷ ts) rest p g = let k = row_of ts rest p.1 g.1 in ((p.0, near t (joined spell ts) rest p.0 g.0, k.0), k.1)

  all_of : (ts : List T) → IsRow spell P goes ts → AllIn P ts
  all_of [] r = tt
  all_of (t ∷ ts) r = (r.0, all_of ts r.2)

  runs_of : (ts : List T) (rest : List S) → IsRow spell P goes ts → Closed starts ts rest → Runs spell starts goes ts rest
  runs_of [] rest r s = s
  runs_of (t ∷ ts) rest r s = (far t (joined spell ts) rest r.0 s r.1, runs_of ts rest r.2 s)

  -- the words before the stop can be completed to a row, and an item that may stand before them may stand before that row
  record Goal (ws rest : List S) : Type 0 where
    pub front : List S
    pub split : ws ≡ front ++ rest
    pub more : List S
    pub trees : List T
    pub fits : IsRow spell P goes trees
    pub viable : front ++ more ≡ joined spell trees
    pub plain : AllIn Q more
    pub behind : (t : T) → P t → goes t ws → goes t (front ++ more)

  stopped : (ws rest : List S) (front more : List S) (tree : T) → ws ≡ front ++ rest → P tree → front ++ more ≡ spell tree → AllIn Q more →
      Goal ws rest
  stopped ws rest [] more tree split fits viable plain =
      record {
        front = [];
        split = split;
        more = [];
        trees = [];
        fits = tt;
        viable = refl;
        plain = tt;
        behind =
            λ t p g. out t [] p nothing;
      }
  stopped ws rest (w ∷ front) more tree split fits viable plain = record {
    front = w ∷ front;
    split = split;
    more = more;
    trees = tree ∷ [];
    fits = (fits, out tree [] fits nothing, tt);
    viable = viable ∙ sym (append-nil (spell tree));
    plain = plain;
    behind = λ t p g. e.heads t w (front ++ rest) (front ++ more) (subst (goes t) split g);
  }

  -- an item in front
  grown : (ws rest : List S) (a : T) (after : List S) → ws ≡ spell a ++ after → P a → goes a after → Goal after rest → Goal ws rest
  grown ws rest a after split p g k = record {
    front = spell a ++ k.front;
    split = split ∙ ap (λ (z : List S). spell a ++ z) k.split ∙ sym (append_assoc (spell a) k.front rest);
    more = k.more;
    trees = a ∷ k.trees;
    fits = (p, subst (goes a) k.viable (k.behind a p g), k.fits);
    viable = append_assoc (spell a) k.front k.more ∙ ap (λ (z : List S). spell a ++ z) k.viable;
    plain = k.plain;
    behind = λ t q h. moved t (spell a) (long a p) (subst (goes t) split h);
  }
    where
      moved : (t : T) (own : List S) → 0 < length own → goes t (own ++ after) → goes t ((own ++ k.front) ++ k.more)
      moved t [] l h = absurd (omega arith)
      moved t (w ∷ own) l h = e.heads t w (own ++ after) ((own ++ k.front) ++ k.more) h

  goal_for : (n : ℕ) (ws rest : List S) → many_for n starts item ws ≡ Err rest → Goal ws rest
  unfolding many_for
  goal_for zero ws rest h = absurd cc
  goal_for (suc n) ws rest h =
      elim (chosen (starts ws) (item_and (many_for n starts item) (item ws)) (Ok ([], ws)) (Err rest) h) [
        | inl k ↦ elim (bind_err (item ws) (λ x. many_for n starts item x.1 >>= (λ xs. Ok (x.0 ∷ xs.0, xs.1))) rest k.1) [
          | inl a ↦ (let s = e.stops ws rest a in stopped ws rest s.front s.more s.tree s.split s.fits s.viable s.plain)
          | inr a ↦ elim (bind_err (many_for n starts item a.0.1) (λ xs. Ok (a.0.0 ∷ xs.0, xs.1)) rest a.2) [
            | inl b ↦ (let t = e.takes ws a.0.0 a.0.1 a.1 in grown ws rest a.0.0 a.0.1 t.0 t.1 t.2 (goal_for n a.0.1 rest b))
            | inr b ↦ absurd (let wrong = b.2 in cc)
          ]
        ]
        | inr k ↦ absurd (let wrong = k.1 in cc)
      ]

  goal : (ws rest : List S) → many starts item ws ≡ Err rest → Goal ws rest
  unfolding many
  goal ws rest h = goal_for (length ws) ws rest h

  items : Exact Q (joined spell) (AllIn P) (Runs spell starts goes) (many starts item)
  items = many_exact e starts head nothing yes long

  row_stops : (ws rest : List S) → many starts item ws ≡ Err rest → Stops Q (joined spell) (IsRow spell P goes) (many starts item) ws rest
  row_stops ws rest h =
      let k = goal ws rest h in
      let s = items.stops ws rest h in
      let same : k.front ≡ s.front = append_cancel_right k.front s.front rest (sym k.split ∙ s.split) in record {
        front = s.front;
        split = s.split;
        more = k.more;
        tree = k.trees;
        fits = k.fits;
        viable = ap (λ (z : List S). z ++ k.more) (sym same) ∙ k.viable;
        plain = k.plain;
        stuck = s.stuck;
      }

  pub row_exact : Exact Q (joined spell) (IsRow spell P goes) (Closed starts) (many starts item)
  row_exact = record {
    takes = λ ws ts rest h. let k = items.takes ws ts rest h in let r = row_of ts rest k.1 k.2 in (k.0, r.0, r.1);
    again = λ ts rest r s. items.again ts rest (all_of ts r) (runs_of ts rest r s);
    stops = row_stops;
    heads = λ ts w more after s. sym (head w more after) ∙ s;
    some = [];
    some_fits = tt;
    some_plain = tt;
  }
