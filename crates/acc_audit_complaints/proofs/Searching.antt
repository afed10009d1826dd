-- The search over tuples, range by range.
use Rattle.std.proofs.Common.{◌≡◌, ℕ, ◌+◌, ◌≤◌, ◌<◌, List, [], ◌∷◌, ◌++◌, length, map, drop, get_or, Option, Some, None, refl, sym, ap, ◌∙◌, ℤ}
use Rattle.std.proofs.Common.{append_assoc, take, ◌-◌, arith, length-append, true, false, is_some}
use Rattle.std.proofs.lemmas.Bool.{false≢true}
use Rattle.std.specs.List.{flat_map}
use Rattle.std.proofs.lemmas.List.{drop_all, map-append}
use Rattle.acc_base.specs.declared.tables.Row.{Row}
use Rattle.acc_base.specs.declared.forms.Clause.{Clause}
use Rattle.acc_audit_trial.specs.declared.trials.Trial.{Trial}
use Rattle.acc_audit_trial.specs.declared.trials.Trial.TheVariants as trial
use Rattle.acc_audit_trial.specs.Trials.{trial_of}
use Rattle.acc_audit_trial.proofs.Loops.{one_more}
use Rattle.acc_audit_complaints.specs.declared.searches.Complaint.{Complaint}
use Rattle.acc_audit_complaints.specs.Tuples.{tuples}
use Rattle.acc_audit_complaints.specs.Complaints.{after_trial, first_bad}
use Rattle.acc_audit_complaints.proofs.Counting.{cons_all}

-- the first of two, and the second where that isn't there
abbrev or_else : Option Complaint → Option Complaint → Option Complaint
or_else None second = second
or_else (Some k) second = Some k

after_else : (own : List ℤ) (t : Trial) (a b : Option Complaint) → after_trial own t (or_else a b) ≡ or_else (after_trial own t a) b
after_else own trial.Holds a b = refl
after_else own trial.Fails a b = refl
after_else own trial.Large a b = refl

front : (vs : List ℤ) (x : ℤ) → take (length vs) (vs ++ x ∷ []) ≡ vs
front [] x = refl
front (v ∷ vs) x = ap (λ ys. v ∷ ys) (front vs x)

-- the values so far, before each tuple
abbrev before_all : List ℤ → List (List ℤ) → List (List ℤ)
before_all values owns = map (λ own. values ++ own) owns

nothing_more : (values : List ℤ) → values ++ [] ≡ values
nothing_more [] = refl
nothing_more (x ∷ xs) = ap (λ ys. x ∷ ys) (nothing_more xs)

moved : (values : List ℤ) (x : ℤ) (rest : List (List ℤ)) → before_all values (cons_all rest x) ≡ before_all (values ++ x ∷ []) rest
moved values x [] = refl
moved values x (own ∷ rest) =
    λ i. sym (append_assoc values (x ∷ []) own) i ∷ moved values x rest i

module _ (db : List Row) (c : Clause) (n : ℕ) where
  first_both : (xs ys : List (List ℤ)) → first_bad db c n (xs ++ ys) ≡ or_else (first_bad db c n xs) (first_bad db c n ys)
  first_both [] ys = refl
  first_both (x ∷ xs) ys =
      ap (after_trial (drop n x) (trial_of db x c)) (first_both xs ys)
      ∙ after_else (drop n x) (trial_of db x c) (first_bad db c n xs) (first_bad db c n ys)

  -- no range
  pub search_last : (values : List ℤ) (found : Option Complaint) → found ≡ after_trial (drop n values) (trial_of db values c) None →
      found ≡ first_bad db c n (map (λ own. values ++ own) (tuples []))
  search_last values found is =
      is ∙ ap (λ v. after_trial (drop n v) (trial_of db v c) None) (sym (nothing_more values))

  module _ (values : List ℤ) (rest : List (List ℤ)) where
    abbrev pub left : List ℤ → Option Complaint
    left range = first_bad db c n (map (λ own. values ++ own) (flat_map (cons_all rest) range))

    first_value : (x : ℤ) (range : List ℤ) →
        left (x ∷ range) ≡ or_else (first_bad db c n (map (λ own. (values ++ x ∷ []) ++ own) rest)) (left range)
    first_value x range =
        ap (first_bad db c n) (map-append (λ own. values ++ own) (cons_all rest x) (flat_map (cons_all rest) range))
        ∙ first_both (before_all values (cons_all rest x)) (before_all values (flat_map (cons_all rest) range))
        ∙ ap (λ vs. or_else (first_bad db c n vs) (left range)) (moved values x rest)

    module _ (range : List ℤ) (i : ℕ) (x d : ℤ) (within : i < length range) (here : x ≡ get_or range i d) where
      step : left (drop i range) ≡ or_else (first_bad db c n (map (λ own. (values ++ x ∷ []) ++ own) rest)) (left (drop (i + 1) range))
      step = ap left (one_more range i x d within here) ∙ first_value x (drop (i + 1) range)

      pub search_more : (pushed : List ℤ) → pushed ≡ values ++ x ∷ [] → (found : Option Complaint) →
          found ≡ first_bad db c n (map (λ own. pushed ++ own) rest) → is_some found ≡ false →
          left (drop (i + 1) range) ≡ left (drop i range)
      search_more pushed with_it found is none =
          by found none ∙ ap (λ o. or_else o (left (drop (i + 1) range)))
          (is ∙ ap (λ vs. first_bad db c n (map (λ own. vs ++ own) rest)) with_it) ∙ sym step
        where
          by : (o : Option Complaint) → is_some o ≡ false → left (drop (i + 1) range) ≡ or_else o (left (drop (i + 1) range))
          by None h = refl
          by (Some k) h = absurd (false≢true (sym h))

      pub search_found : (pushed : List ℤ) → pushed ≡ values ++ x ∷ [] → (found : Option Complaint) →
          found ≡ first_bad db c n (map (λ own. pushed ++ own) rest) → is_some found ≡ true → found ≡ left (drop i range)
      search_found pushed with_it found is some =
          by found some ∙ ap (λ o. or_else o (left (drop (i + 1) range)))
          (is ∙ ap (λ vs. first_bad db c n (map (λ own. vs ++ own) rest)) with_it) ∙ sym step
        where
          by : (o : Option Complaint) → is_some o ≡ true → o ≡ or_else o (left (drop (i + 1) range))
          by None h = absurd (false≢true h)
          by (Some k) h = refl

    pub search_end : (range : List ℤ) (i : ℕ) → length range ≤ i → left (drop i range) ≡ None
    search_end range i past = ap left (drop_all i range past)

  -- a range and the others
  pub search_whole : (values range items : List ℤ) (others ranges : List (List ℤ)) (found : Option Complaint) → items ≡ range →
      ranges ≡ range ∷ others → found ≡ left values (tuples others) items →
      found ≡ first_bad db c n (map (λ own. values ++ own) (tuples ranges))
  search_whole values range items others ranges found same parts is =
      is ∙ ap (left values (tuples others)) same ∙ ap (λ rs. first_bad db c n (map (λ own. values ++ own) (tuples rs))) (sym parts)

-- what is pushed and popped again leaves what was there
pub popped : (values pushed now rest : List ℤ) (x : ℤ) → pushed ≡ values ++ x ∷ [] → now ≡ pushed → rest ≡ take (length now - 1) now →
    rest ≡ values
popped values pushed now rest x with_it same is =
    is ∙ ap (λ l. take (length l - 1) l) (same ∙ with_it) ∙ by values
  where
    by : (vs : List ℤ) → take (length (vs ++ x ∷ []) - 1) (vs ++ x ∷ []) ≡ vs
    by vs =
        let long = length-append vs (x ∷ []) in
        let n : length (vs ++ x ∷ []) - 1 ≡ length vs = omega (arith, long) in
        ap (λ k. take k (vs ++ x ∷ [])) n ∙ front vs x

pub none_is : (found : Option Complaint) → is_some found ≡ false → found ≡ None
none_is None h = refl
none_is (Some k) h = absurd (false≢true (sym h))
