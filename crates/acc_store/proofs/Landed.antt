-- A row that is put at a place: from its run to all entries, and what it is to rows, room and blanks.
use Rattle.std.proofs.Common.{◌≡◌, ◌≤◌, Bool, true, false, cond, List, [], length, ap, sym, ◌∙◌, refl, subst, arith, ℤ, Some, None}
use Rattle.std.proofs.Common.{is_some}
use Rattle.std.specs.Prelude.{Result, Ok, Err, OnOk, OnErr, IfOk, IsOk, is_none}
use Rattle.std.specs.Cmp.{first_so}
use Rattle.std.specs.Map.{set_value}
use Rattle.std.specs.BTreeMap.{insert_entry, is_at as at}
use Rattle.std.proofs.lemmas.Bool.{le-leb}
use Rattle.acc_base.specs.Tables.{Place, place_cmp, put}
use Rattle.acc_base.proofs.Places.{place_total, one_place, is_equal}
use Rattle.acc_store.specs.Contents.{Content}
use Rattle.acc_store.specs.Changes.{HasTaken, HasRefused}
use Rattle.acc_store.specs.Landings.{Lands, HasCome, AddsNoBlank}
use Rattle.acc_store.specs.Rows.{Entry, entry_at, has_entry, has_room_at, is_blank, is_blank_at, IsUp, AreFit, IsFit, KeepsRoom}
use Rattle.acc_store.specs.Rows.{live, row_of}
use Rattle.acc_store.specs.Runs.{RunOf, joined, IsLaid, IsRunFor, Alters}
use Rattle.acc_store.specs.declared.runs.Landing.{Landing}
use Rattle.acc_store.specs.declared.runs.Landing.TheVariants.{There, Came, Back}
use Rattle.acc_store.proofs.Laid.{run_found, found_in_run, changed_in_run, inserted_in_run, inserted_laid, match_none, set_again}
use Rattle.acc_store.proofs.Live.{content, live_put, same_there, set_is_insert}
use Rattle.acc_store.proofs.Room.{fit_insert, kept_by, none_absent, room_there, wide_there}
use Rattle.acc_store.proofs.Blanks.{change_clears}
use Rattle.acc_store.proofs.Changed.{alters_by, alters_up, alters_fit, at_inserted, up_inserted}

-- ---- the run where the place belongs, and all entries

module _ (p : Place) (rs : List (RunOf Place Content)) (k : Place) (m : List Entry) (laid : IsLaid place_cmp [] rs)
    (run : IsRunFor place_cmp p rs k m) (cells : List ℤ) (w : List Entry) where
  abbrev after : List Entry → List (RunOf Place Content)
  after v = set_value (at (place_cmp k)) rs v

  found : entry_at p (joined rs) ≡ entry_at p m
  found = found_in_run place_total p rs k m laid run

  lands : (l : Landing) → Lands p cells l m w → Lands p cells l (joined rs) (joined (after w)) × IsLaid place_cmp [] (after w)
  lands There h =
      let changed = changed_in_run place_total p rs k m laid run (HasTaken cells) w h.1 in
      ((ap is_some found ∙ h.0, changed.0), changed.1)
  lands Came h =
      let v : Content = content (Some cells) h.1 in (
        (found ∙ h.0, h.1, ap (λ l. joined (after l)) h.2 ∙ sym (inserted_in_run place_total p rs k m laid run v)),
        subst (λ l. IsLaid place_cmp [] (after l)) (sym h.2) (inserted_laid place_total p rs k m laid run v),
      )
  lands (Back q) h =
      let same : after w ≡ rs = ap after h.2 ∙ set_again (at (place_cmp k)) rs m (run_found place_total p rs k m laid run) in
      ((h.0, found ∙ h.1, ap joined same), subst (IsLaid place_cmp []) (sym same) laid)

  module _ {E : Type 0} where
    pub lands_in_run : (r : Result Landing E) → IfOk r (λ l. Lands p cells l m w) →
        IfOk r (λ l. Lands p cells l (joined rs) (joined (set_value (at (place_cmp k)) rs w)))
    lands_in_run (Ok l) h = (lands l h).0
    lands_in_run (Err e) h = tt

    pub refused_in_run : (r : Result Landing E) → OnErr r (Alters p (HasRefused cells) m w) →
        OnErr r (Alters p (HasRefused cells) (joined rs) (joined (set_value (at (place_cmp k)) rs w)))
    refused_in_run (Ok l) h = tt
    refused_in_run (Err e) h = (changed_in_run place_total p rs k m laid run (HasRefused cells) w h).0

    pub landed_laid : (r : Result Landing E) → IfOk r (λ l. Lands p cells l m w) → OnErr r (Alters p (HasRefused cells) m w) →
        IsLaid place_cmp [] (set_value (at (place_cmp k)) rs w)
    landed_laid (Ok l) h g = (lands l h).1
    landed_laid (Err e) h g = (changed_in_run place_total p rs k m laid run (HasRefused cells) w g).1

-- ---- what was put

module _ (p : Place) (cells : List ℤ) (es fs : List Entry) where
  pub come_there : IsUp es → has_entry es p ≡ true → Alters p (HasTaken cells) es fs → HasCome p cells es fs
  come_there up there h =
      alters_by p (HasTaken cells) es fs (HasCome p cells es fs) h
      (λ none same. let e : false ≡ true = sym (ap is_some none) ∙ there in cc)
      (λ s t e g same at. (
        t,
        g.0,
        λ n room. let few : n ≤ s.room = room_there es p s n e room in let more : s.room ≤ t.room = g.1 in omega arith,
        same ∙ set_is_insert p s t es up e,
      ))

  pub come_new : (t : Content) → t.cells ≡ Some cells → entry_at p es ≡ None → fs ≡ insert_entry place_cmp es p t → HasCome p cells es fs
  come_new t is none same = (t, is, λ n room. absurd (none_absent es p n (ap is_some none) room), same)

  pub refused_none : entry_at p es ≡ None → fs ≡ es → Alters p (HasRefused cells) es fs
  refused_none none same =
      match_none (λ s. (t : Content) × HasRefused cells s t × (fs ≡ set_value (at (place_cmp p)) es t)) (entry_at p es) none same

  come_at : (t : Content) → fs ≡ insert_entry place_cmp es p t → (q : Place) →
      entry_at q fs ≡ cond (at (place_cmp p) q) (Some t) (entry_at q es)
  come_at t same q = ap (entry_at q) same ∙ at_inserted p t es q

  pub come_rows : IsUp es → HasCome p cells es fs → live fs ≡ put (row_of p cells) (live es)
  come_rows up h =
      ap live h.3 ∙ ap (λ v. live (insert_entry place_cmp es p (content v h.0.room))) h.1 ∙ live_put p cells h.0.room es up

  pub refused_rows : Alters p (HasRefused cells) es fs → live fs ≡ live es
  refused_rows h =
      alters_by p (HasRefused cells) es fs (live fs ≡ live es) h (λ none same. ap live same)
      (λ s t there changed same at. ap live same ∙ same_there p s t es there changed.0)

  refused_room : Alters p (HasRefused cells) es fs → has_room_at es p (length cells) ≡ true → ⊥
  refused_room h room =
      alters_by p (HasRefused cells) es fs ⊥ h (λ none same. none_absent es p (length cells) (ap is_some none) room)
      (λ s t there changed same at. changed.2 (room_there es p s (length cells) there room))

  come_kept : HasCome p cells es fs → KeepsRoom es fs
  come_kept h = kept_by es fs p h.0 (λ n room. le-leb n h.0.room (h.2 n room)) (come_at h.0 h.3)

  refused_kept : Alters p (HasRefused cells) es fs → KeepsRoom es fs
  refused_kept h =
      alters_by p (HasRefused cells) es fs (KeepsRoom es fs) h (λ none same. subst (KeepsRoom es) (sym same) (λ q n g. g))
      (λ s t there changed same at. kept_by es fs p t (wide_there es p s t there changed.1) at)

  come_blanks : HasCome p cells es fs → AddsNoBlank es fs
  come_blanks h q g = first_so (is_blank_at es q) _ (change_clears es fs p (Some h.0) (come_at h.0 h.3) (ap is_none h.1) q g)

  -- an entry that keeps its cells is blank where it was
  same_blank : (s t : Content) → entry_at p es ≡ Some s → t.cells ≡ s.cells →
      ((q : Place) → entry_at q fs ≡ cond (at (place_cmp p) q) (Some t) (entry_at q es)) → AddsNoBlank es fs
  same_blank s t there same all q h = by (at (place_cmp p) q) refl (sym (ap is_blank (all q)) ∙ h)
    where
      by : (b : Bool) → at (place_cmp p) q ≡ b → is_blank (cond b (Some t) (entry_at q es)) ≡ true → is_blank_at es q ≡ true
      by true e g = ap (is_blank_at es) (sym (one_place p q (is_equal (place_cmp p q) e))) ∙ ap is_blank there ∙ ap is_none (sym same) ∙ g
      by false e g = g

  refused_blanks : Alters p (HasRefused cells) es fs → AddsNoBlank es fs
  refused_blanks h =
      alters_by p (HasRefused cells) es fs (AddsNoBlank es fs) h (λ none same q g. ap (λ l. is_blank_at l q) (sym same) ∙ g)
      (λ s t there changed same all. same_blank s t there changed.0 all)

  module _ {T E : Type 0} where
    pub put_enough : (r : Result T E) → OnErr r (Alters p (HasRefused cells) es fs) → has_room_at es p (length cells) ≡ true → IsOk r
    put_enough (Ok x) h room = refl
    put_enough (Err e) h room = absurd (refused_room h room)

    pub put_kept : (r : Result T E) → OnOk r (HasCome p cells es fs) → OnErr r (Alters p (HasRefused cells) es fs) → KeepsRoom es fs
    put_kept (Ok x) h g = come_kept h
    put_kept (Err e) h g = refused_kept g

    pub put_blanks : (r : Result T E) → OnOk r (HasCome p cells es fs) → OnErr r (Alters p (HasRefused cells) es fs) → AddsNoBlank es fs
    put_blanks (Ok x) h g = come_blanks h
    put_blanks (Err e) h g = refused_blanks g

    pub put_up : (r : Result T E) → OnOk r (HasCome p cells es fs) → OnErr r (Alters p (HasRefused cells) es fs) → IsUp es → IsUp fs
    put_up (Ok x) h g up = subst IsUp (sym h.3) (up_inserted p h.0 es up)
    put_up (Err e) h g up = alters_up p (HasRefused cells) es fs g up

    pub put_fit : (r : Result T E) → OnOk r (HasCome p cells es fs) → OnErr r (Alters p (HasRefused cells) es fs) → IsFit p → AreFit es →
        AreFit fs
    put_fit (Ok x) h g fit are = subst AreFit (sym h.3) (fit_insert p h.0 es fit are)
    put_fit (Err e) h g fit are = alters_fit p (HasRefused cells) es fs g are

pub on_err_so : {T E P Q : Type 0} (r : Result T E) → (P → Q) → OnErr r P → OnErr r Q
on_err_so (Ok x) f h = tt
on_err_so (Err e) f h = f h
