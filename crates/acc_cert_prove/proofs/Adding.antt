-- What searches give, one obligation after the other.
use Rattle.std.proofs.Common.{◌≡◌, false, ℕ, suc, ◌+◌, ◌<◌, List, [], ◌∷◌, ◌++◌, length, take, drop, get_or, Ok, Err, refl, sym, ap, subst}
use Rattle.std.proofs.Common.{◌∙◌, append_assoc, arith}
use Rattle.std.proofs.Math.Seq.{take-suc}
use Rattle.std.specs.Prelude.{◌≢◌, IsTrue, Result, IfOk, OnOk}
use Rattle.std.specs.List.{AllByRecursion, flat_map}
use Rattle.std.proofs.lemmas.List.{append-nil, take-append-drop}
use Rattle.std.proofs.lemmas.Grind.{flat_map-append}
use Rattle.std.proofs.lemmas.Slice.Zip.{all_zipped_more}
use Rattle.acc_base.specs.declared.designs.Design.{Design}
use Rattle.acc_base.specs.declared.sequents.Origin.{Origin}
use Rattle.acc_base.specs.declared.sequents.Sequent.{Sequent}
use Rattle.acc_axioms.specs.declared.nodes.Node.{Node}
use Rattle.acc_axioms.specs.declared.nodes.Proof.{Proof}
use Rattle.acc_cert_bounds.specs.InBounds.{nodes as are_in_bounds}
use Rattle.acc_prover.specs.BranchCourses.{Course}
use Rattle.acc_prover.specs.Halt.{Halt}
use Rattle.acc_prover.specs.declared.found.Found.{Found}
use Rattle.acc_prover.specs.declared.found.Found.TheVariants.{Proved, Unproved}
use Rattle.acc_prover.specs.declared.found.SearchError.{SearchError}
use Rattle.acc_prover.specs.declared.found.SearchError.TheVariants.{Crowded, Wide, Many, Memory}
use Rattle.acc_prover.specs.Courses.{IsProof}
use Rattle.acc_prover.specs.Tellings.{Closes, Tells, IfProved}
use Rattle.acc_page.specs.Written.{Written, Adds, Owes}
use Rattle.acc_page.proofs.Adding.{adds_both}
use Rattle.acc_cert_prove.specs.declared.findings.Finding.{Finding}
use Rattle.acc_cert_prove.specs.declared.proving.Proving.{Proving}
use Rattle.acc_cert_prove.specs.Lines.{searched, open_line, open_lines}
use Rattle.acc_cert_prove.specs.Founds.{found_line, found_proofs, Gives, GivesAll, AddsProofs, Ends, ProvesAll}
use Rattle.acc_cert_prove.specs.Findings.{IsFinding, AreFindings, HasEnded, finding_lines, finding_proofs}

-- ---- one obligation

closed_line : (d : Design) (o : Origin) (c : Course (List Node)) → Closes c → [] ≡ open_line d o c
closed_line d o (Ok nodes) h = refl
closed_line d o (Err e) h = absurd h

line_told :
    (d : Design) (o : Origin) (r : Result Found SearchError) (c : Course (List Node)) → r ≢ Err Memory → Tells r c
    → found_line d o r ≡ open_line d o c
line_told d o (Ok (Proved p)) c other h = closed_line d o c h
line_told d o (Ok (Unproved leaf point)) c other h = ap (open_line d o) (sym h)
line_told d o (Err Crowded) c other h = ap (open_line d o) (sym h)
line_told d o (Err Wide) c other h = ap (open_line d o) (sym h)
line_told d o (Err Many) c other h = ap (open_line d o) (sym h)
line_told d o (Err Memory) c other h = absurd (other refl)

closed_gives : (d : Design) (q : Sequent) (p : Proof) (c : Course (List Node)) → Closes c → IsProof d q p.nodes
    → IsTrue (are_in_bounds p.nodes) → Gives d q c (p ∷ [])
closed_gives d q p (Ok nodes) h k b = (p, refl, k, b)
closed_gives d q p (Err e) h k b = absurd h

stopped_gives : (d : Design) (q : Sequent) (c : Course (List Node)) (e : Halt) → c ≡ Err e → Gives d q c []
stopped_gives d q c e h = subst (λ x. Gives d q x []) (sym h) refl

proofs_told :
    (d : Design) (q : Sequent) (r : Result Found SearchError) (c : Course (List Node)) → r ≢ Err Memory → Tells r c
    → IfProved r (IsProof d q) → IfProved r (λ nodes. IsTrue (are_in_bounds nodes)) → Gives d q c (found_proofs r)
proofs_told d q (Ok (Proved p)) c other h k b = closed_gives d q p c h k b
proofs_told d q (Ok (Unproved leaf point)) c other h k b = stopped_gives d q c _ h
proofs_told d q (Err Crowded) c other h k b = stopped_gives d q c _ h
proofs_told d q (Err Wide) c other h k b = stopped_gives d q c _ h
proofs_told d q (Err Many) c other h k b = stopped_gives d q c _ h
proofs_told d q (Err Memory) c other h k b = absurd (other refl)

-- ---- findings, one after the other

-- a list of one, at the end
flat_map_one : {A B : Type 0} (f : A → List B) (xs : List A) (x : A) → flat_map f (xs ++ x ∷ []) ≡ flat_map f xs ++ f x
flat_map_one f xs x = flat_map-append f xs (x ∷ []) ∙ ap (λ (ys : List _). flat_map f xs ++ ys) (append-nil (f x))

pub next_lines : (d : Design) (first mid new : Written) (fs : List Finding) (f : Finding) → Adds first mid (finding_lines d fs)
    → Adds mid new (found_line d f.origin f.found) → Adds first new (finding_lines d (fs ++ f ∷ []))
next_lines d first mid new fs f before now =
    let P : List ℕ → Type 0 = λ text. Adds first new text in
    subst P (sym (flat_map_one (λ (x : Finding). found_line d x.origin x.found) fs f))
    (adds_both first mid new (finding_lines d fs) (found_line d f.origin f.found) before now)

pub next_proofs : (first mid new : List Proof) (fs : List Finding) (f : Finding) → mid ≡ first ++ finding_proofs fs
    → new ≡ mid ++ found_proofs f.found → new ≡ first ++ finding_proofs (fs ++ f ∷ [])
next_proofs first mid new fs f before now =
    now ∙ ap (λ (ps : List Proof). ps ++ found_proofs f.found) before
    ∙ append_assoc first (finding_proofs fs) (found_proofs f.found)
    ∙ ap (λ (ps : List Proof). first ++ ps) (sym (flat_map_one (λ (x : Finding). found_proofs x.found) fs f))

pub next_ended : (fs : List Finding) (f : Finding) → AllByRecursion HasEnded fs → HasEnded f → AllByRecursion HasEnded (fs ++ f ∷ [])
next_ended [] f before now = (now, tt)
next_ended (x ∷ fs) f before now = (before.0, next_ended fs f before.1 now)

-- ---- findings of obligations

-- one more obligation is searched
pub one_more :
    (d : Design) (qs : List Sequent) (i : ℕ) (q : Sequent) (f : Finding) (old new : List Finding) → i < length qs → q ≡ get_or qs i q
    → new ≡ old ++ f ∷ [] → IsFinding d q f → AreFindings d (take i qs) old → AreFindings d (take (i + 1) qs) new
one_more d qs i q f old new within here added found before =
    let n : suc i ≡ i + 1 = omega arith in
    let taken : take i qs ++ q ∷ [] ≡ take (i + 1) qs =
    ap (λ (x : Sequent). take i qs ++ x ∷ []) here ∙ sym (take-suc qs i q within) ∙ ap (λ (k : ℕ). take k qs) n in
    subst (λ (fs : List Finding). AreFindings d (take (i + 1) qs) fs) (sym added)
    (subst (λ (xs : List Sequent). AreFindings d xs (old ++ f ∷ [])) taken
    (all_zipped_more (IsFinding d) (take i qs) old q f before found))

module _ (d : Design) where
  finding_line : (q : Sequent) (f : Finding) → IsFinding d q f → HasEnded f
      → found_line d f.origin f.found ≡ open_line d q.origin (searched d q)
  finding_line q f h ended =
      line_told d f.origin f.found (searched d q) ended h.kind ∙ ap (λ (o : Origin). open_line d o (searched d q)) h.origin

  lines_of_all : (qs : List Sequent) (fs : List Finding) → AreFindings d qs fs → AllByRecursion HasEnded fs
      → finding_lines d fs ≡ open_lines d qs
  lines_of_all [] [] h ended = refl
  lines_of_all [] (f ∷ fs) h ended = absurd h
  lines_of_all (q ∷ qs) [] h ended = absurd h
  lines_of_all (q ∷ qs) (f ∷ fs) h ended =
      ap (λ (xs : List ℕ). xs ++ finding_lines d fs) (finding_line q f h.0 ended.0)
      ∙ ap (λ (xs : List ℕ). open_line d q.origin (searched d q) ++ xs) (lines_of_all qs fs h.1 ended.1)

  proofs_of_all : (qs : List Sequent) (fs : List Finding) → AreFindings d qs fs → AllByRecursion HasEnded fs
      → GivesAll d qs (finding_proofs fs)
  proofs_of_all [] [] h ended = refl
  proofs_of_all [] (f ∷ fs) h ended = absurd h
  proofs_of_all (q ∷ qs) [] h ended = absurd h
  proofs_of_all (q ∷ qs) (f ∷ fs) h ended = (
    found_proofs f.found,
    finding_proofs fs,
    refl,
    proofs_told d q f.found (searched d q) ended.0 h.0.kind h.0.proof h.0.bounds,
    proofs_of_all qs fs h.1 ended.1,
  )

  -- ---- those that are searched at once, and the others behind them

  gives_both : (xs ys : List Sequent) (ps rs : List Proof) → GivesAll d xs ps → GivesAll d ys rs → GivesAll d (xs ++ ys) (ps ++ rs)
  gives_both [] ys ps rs none h = subst (λ (zs : List Proof). GivesAll d ys (zs ++ rs)) (sym none) h
  gives_both (x ∷ xs) ys ps rs (first, more, e, g, all) h = (
    first,
    more ++ rs,
    ap (λ (zs : List Proof). zs ++ rs) e ∙ append_assoc first more rs,
    g,
    gives_both xs ys more rs all h,
  )

  adds_behind : (xs ys : List Sequent) (old mid new : List Proof) → AddsProofs d xs old mid → AddsProofs d ys mid new
      → AddsProofs d (xs ++ ys) old new
  adds_behind xs ys old mid new (ps, e, g) (rs, f, h) =
      (ps ++ rs, f ∙ ap (λ (zs : List Proof). zs ++ rs) e ∙ append_assoc old ps rs, gives_both xs ys ps rs g h)

  -- the front of a list, and what is behind it
  cut_at : (n : ℕ) (qs front behind : List Sequent) → front ≡ take n qs → behind ≡ drop n qs → front ++ behind ≡ qs
  cut_at n qs front behind a b =
      ap (λ (xs : List Sequent). xs ++ behind) a ∙ ap (λ (ys : List Sequent). take n qs ++ ys) b ∙ take-append-drop n qs

  pub lines_behind : (n : ℕ) (qs front behind : List Sequent) (first mid new : Written) (all : List ℕ) → front ≡ take n qs
      → behind ≡ drop n qs → Adds mid new (open_lines d front) → Owes first mid (open_lines d qs) all
      → Owes first new (open_lines d behind) all
  lines_behind n qs front behind first mid new all a b now before = λ whole. (
    (before (now whole).0).0,
    ap (λ (xs : List ℕ). xs ++ open_lines d behind) (now whole).1
        ∙ append_assoc mid.text (open_lines d front) (open_lines d behind)
        ∙ ap (λ (xs : List ℕ). mid.text ++ xs)
        (sym (flat_map-append (λ (q : Sequent). open_line d q.origin (searched d q)) front behind)
        ∙ ap (open_lines d) (cut_at n qs front behind a b))
        ∙ (before (now whole).0).1,
  )

  pub proofs_behind : (n : ℕ) (qs front behind all : List Sequent) (first mid new : List Proof) → front ≡ take n qs
      → behind ≡ drop n qs → AddsProofs d front mid new
      → ((last : List Proof) → AddsProofs d qs mid last → AddsProofs d all first last) → (last : List Proof)
      → AddsProofs d behind new last → AddsProofs d all first last
  proofs_behind n qs front behind all first mid new a b now before last rest =
      before last
      (subst (λ (xs : List Sequent). AddsProofs d xs mid last) (cut_at n qs front behind a b)
      (adds_behind front behind mid new last now rest))

-- ---- what the calls tell

pub found_lines : {T E : Type 0}
    (d : Design) (qs : List Sequent) (fs : List Finding) (r : Result T E) (old new : Written) → AreFindings d qs fs
    → OnOk r (Adds old new (finding_lines d fs)) → OnOk r (AllByRecursion HasEnded fs) → OnOk r (Adds old new (open_lines d qs))
found_lines d qs fs (Ok x) old new h added ended =
    let P : List ℕ → Type 0 = λ text. Adds old new text in subst P (lines_of_all d qs fs h ended) added
found_lines d qs fs (Err e) old new h added ended = tt

pub found_all : {T E : Type 0}
    (d : Design) (qs : List Sequent) (fs : List Finding) (r : Result T E) (old new : List Proof) → AreFindings d qs fs
    → OnOk r (new ≡ old ++ finding_proofs fs) → OnOk r (AllByRecursion HasEnded fs) → OnOk r (AddsProofs d qs old new)
found_all d qs fs (Ok x) old new h added ended = (finding_proofs fs, added, proofs_of_all d qs fs h ended)
found_all d qs fs (Err e) old new h added ended = tt

pub all_proves : {E : Type 0}
    (d : Design) (qs : List Sequent) (first ps : List Proof) (old new : Written) (lines : List ℕ) (r : Result Proving E) → first ≡ []
    → old.text ≡ [] → AddsProofs d qs first ps
    → Adds old new (open_lines d qs) → new.cut ≡ false → lines ≡ new.text → IfOk r (Ends ps lines) → IfOk r (ProvesAll d qs)
all_proves d qs first ps old new lines (Ok x) none nothing (added, e, all) f whole same h =
    let proofs : ps ≡ added = e ∙ ap (λ xs. xs ++ added) none in
    let text : lines ≡ open_lines d qs = same ∙ (f whole).1 ∙ ap (λ xs. xs ++ open_lines d qs) nothing in
    (ps, subst (GivesAll d qs) (sym proofs) all, subst (λ (xs : List ℕ). Ends ps xs x) text h)
all_proves d qs first ps old new lines (Err e) none nothing h f whole same k = tt
