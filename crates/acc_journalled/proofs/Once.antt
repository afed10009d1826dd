-- One thing is said of a disk that tells its bytes.
use Rattle.std.proofs.Common.{◌≡◌, inl, inr, ℕ, List, length, Option, Some, Result, Ok, Err, refl, sym, ap, subst, ◌∙◌}
use Rattle.acc_base.specs.declared.designs.Design.{Design}
use Rattle.acc_base.specs.declared.machines.Event.{Event}
use Rattle.acc_base.specs.declared.tables.Row.{Row}
use Rattle.acc_base.specs.Lawful.{LeadLawfully}
use Rattle.acc_base.specs.Machine.{World, start, unfinished}
use Rattle.acc_recover.specs.Replays.{IsFirstUnlawful}
use Rattle.acc_print.specs.Designs.{printed}
use Rattle.tpcc_tables.specs.declared.tables.TableSet.{TableSet}
use Rattle.acc_wal.specs.Attaching.{CountedAs}
use Rattle.acc_wal.specs.Journals.{Counts}
use Rattle.acc_wal.proofs.Apart.{one_answer}
use Rattle.acc_wal.proofs.Once.{one_reading}
use Rattle.acc_wal.specs.declared.errors.WalError.{WalError}
use Rattle.acc_wal.specs.declared.errors.WalError.TheVariants as wal
use Rattle.acc_recover.specs.Recoveries.{IsRecovery, LeavesUnfinished}
use Rattle.acc_recover.specs.Seals.{HasSeals}
use Rattle.acc_recover.specs.Refusals.{IsOfOther, IsUnlawfulAt, IsDifferentAt, RefusesJournal, RefusesRecovery}
use Rattle.acc_recover.proofs.Sealed.{events_counted}
use Rattle.acc_recover.proofs.Single.{one_recovery}
use Rattle.acc_recover.specs.declared.errors.RecoverError.{RecoverError}
use Rattle.acc_recover.specs.declared.errors.RecoverError.TheVariants.{Journal, OtherDesign, Unlawful, Differs, Disk, Memory}
use Rattle.acc_journalled.specs.declared.answers.Ending.{Ending}
use Rattle.acc_journalled.specs.declared.answers.Ending.TheVariants.{Done, JournalRefused, DiskFailed}
use Rattle.acc_journalled.specs.Tellings.{Telling, Says}
use Rattle.acc_journalled.specs.Making.{MakesJournal}
use Rattle.acc_journalled.specs.Conditions.{AreConsistent, EndsByRows}
use Rattle.acc_journalled.specs.Recovering.{SaysNotRead, SaysNotRecovered, Recovers, RefusesSo, EndsUntold, RecoversJournal, done_with}
use Rattle.acc_journalled.specs.Verifying.{Verifies, VerifiesJournal, verdicts_text}
use Rattle.acc_journalled.proofs.Lawfuls.{lead_once, lawful_or, first_once}
use Rattle.acc_journalled.proofs.Differing.{one_differing, sealed_or}

-- ---- tellings

pub telling_same : (a b : Telling) → a.ending ≡ b.ending → a.text ≡ b.text → a.history ≡ b.history → a.settled ≡ b.settled → a ≡ b
telling_same a b ending text history settled =
    λ i. record { ending = ending i; text = text i; history = history i; settled = settled i }

pub says_same : (ending : Ending) (t u : List ℕ) (a b : Telling) → t ≡ u → Says ending t a → Says ending u b → a ≡ b
says_same ending t u a b same h k = telling_same a b (h.0 ∙ sym k.0) (h.1 ∙ same ∙ sym k.1) (h.2 ∙ sym k.2) (h.3 ∙ sym k.3)

not_read_once : (e : WalError) (a b : Telling) → SaysNotRead e a → SaysNotRead e b → a ≡ b
not_read_once wal.NotJournal a b h k = says_same JournalRefused _ _ a b refl h k
not_read_once (wal.OtherVersion version) a b h k = says_same JournalRefused _ _ a b refl h k
not_read_once (wal.Damaged place) a b h k = says_same JournalRefused _ _ a b refl h k
not_read_once wal.Exists a b h k = absurd h
not_read_once wal.Disk a b h k = absurd h
not_read_once wal.Spent a b h k = absurd h
not_read_once wal.Memory a b h k = absurd h

pub not_recovered_once : (e : RecoverError) (a b : Telling) → SaysNotRecovered e a → SaysNotRecovered e b → a ≡ b
not_recovered_once (Journal e) a b h k = not_read_once e a b h k
not_recovered_once OtherDesign a b h k = says_same JournalRefused _ _ a b refl h k
not_recovered_once (Unlawful at) a b h k = says_same JournalRefused _ _ a b refl h k
not_recovered_once (Differs place) a b h k = says_same JournalRefused _ _ a b refl h k
not_recovered_once Disk a b h k = says_same DiskFailed _ _ a b refl h k
not_recovered_once Memory a b h k = absurd h

-- ---- making

pub making_once : (d : Design) (file : List ℕ) (one other : Option (List ℕ)) (f g : Type 0) (a b : Telling) → ¬ f → ¬ g
    → MakesJournal d (Some file) one f a → MakesJournal d (Some file) other g b → a ≡ b
making_once d file one other f g a b calm sound (inl h) (inl k) = says_same Done _ _ a b refl h.says k.says
making_once d file one other f g a b calm sound (inl h) (inr (inl k)) = absurd (h.fresh k.there)
making_once d file one other f g a b calm sound (inr (inl h)) (inl k) = absurd (k.fresh h.there)
making_once d file one other f g a b calm sound (inr (inl h)) (inr (inl k)) = says_same JournalRefused _ _ a b refl h.says k.says
making_once d file one other f g a b calm sound (inr (inr h)) k = absurd (calm h.failed)
making_once d file one other f g a b calm sound h (inr (inr k)) = absurd (sound k.failed)

-- ---- what a file is

counted_so : (e : WalError) (file : List ℕ) → RefusesJournal e (Some file) → CountedAs file (Err e)
counted_so wal.NotJournal file why = why
counted_so (wal.OtherVersion version) file why = why
counted_so (wal.Damaged place) file why = why
counted_so wal.Exists file why = absurd why
counted_so wal.Disk file why = absurd why
counted_so wal.Spent file why = absurd why
counted_so wal.Memory file why = absurd why

abbrev Found : Type 0
Found = Result (List ℕ × List Event) WalError

ok_or_err : (p : List ℕ × List Event) (q : WalError) → (let a : Found = Ok p in let b : Found = Err q in a ≡ b) → ⊥
ok_or_err p q same = cc

err_same : (p q : WalError) → (let a : Found = Err p in let b : Found = Err q in a ≡ b) → p ≡ q
err_same p q same = cc

module _ (d : Design) (file : List ℕ) where
  -- a journal is read
  pub read_or : (e : WalError) (base : List ℕ) (events : List Event) → Counts file base events → RefusesJournal e (Some file) → ⊥
  read_or e base events c why =
      ok_or_err (base, events) e (one_answer file (Ok (base, events)) (Err e) c (counted_so e file why))

  one_reason : (p q : WalError) → RefusesJournal p (Some file) → RefusesJournal q (Some file) → p ≡ q
  one_reason p q h k = err_same p q (one_answer file (Err p) (Err q) (counted_so p file h) (counted_so q file k))

  -- a journal of the design's text isn't one of another text
  pub text_or : (events : List Event) → Counts file (printed d) events → IsOfOther file (printed d) → ⊥
  text_or events c other = other.other (one_reading file other.base (printed d) other.events events other.counts c).0

  pub same_events : (a b : List Event) → Counts file (printed d) a → Counts file (printed d) b → a ≡ b
  same_events a b h k = (one_reading file (printed d) (printed d) a b h k).1

  one_place : (p q : ℕ) → IsUnlawfulAt d file p → IsUnlawfulAt d file q → p ≡ q
  one_place p q h k =
      first_once d k.events start h.here k.here p q
      (subst (λ (es : List Event). IsFirstUnlawful d start es p h.here) (same_events h.events k.events h.counts k.counts) h.first) k.first

  counted_at : (place : ℕ) (h : IsDifferentAt d file place) → Counts file (printed d) h.events
  counted_at place h = events_counted file (printed d) h.version h.events h.seals h.counts

  -- where all events are lawful, none isn't
  lawful_so : (place at : ℕ) → IsDifferentAt d file place → IsUnlawfulAt d file at → ⊥
  lawful_so place at h k =
      lawful_or d k.events start h.lawful.0 k.here at
      (subst (λ (es : List Event). LeadLawfully d start es h.lawful.0) (same_events h.events k.events (counted_at place h) k.counts)
      h.lawful.1) k.first

  -- ---- a refusal has one cause

  pub refused_once : (e f : RecoverError) (x y : Type 0) (a b : Telling) → ¬ x → ¬ y → RefusesRecovery d e (Some file) x
      → RefusesRecovery d f (Some file) y → SaysNotRecovered e a → SaysNotRecovered f b → e ≡ f
  refused_once (Journal p) (Journal q) x y a b calm sound h k s r = ap (λ z. Journal z) (one_reason p q h k)
  refused_once (Journal p) OtherDesign x y a b calm sound h k s r = absurd (read_or p k.base k.events k.counts h)
  refused_once (Journal p) (Unlawful at) x y a b calm sound h k s r = absurd (read_or p (printed d) k.events k.counts h)
  refused_once OtherDesign (Journal q) x y a b calm sound h k s r = absurd (read_or q h.base h.events h.counts k)
  refused_once OtherDesign OtherDesign x y a b calm sound h k s r = refl
  refused_once OtherDesign (Unlawful at) x y a b calm sound h k s r = absurd (text_or k.events k.counts h)
  refused_once (Unlawful at) (Journal q) x y a b calm sound h k s r = absurd (read_or q (printed d) h.events h.counts k)
  refused_once (Unlawful at) OtherDesign x y a b calm sound h k s r = absurd (text_or h.events h.counts k)
  refused_once (Unlawful at) (Unlawful to) x y a b calm sound h k s r = ap (λ n. Unlawful n) (one_place at to h k)
  refused_once (Journal p) (Differs place) x y a b calm sound h k s r = absurd (read_or p (printed d) k.events (counted_at place k) h)
  refused_once OtherDesign (Differs place) x y a b calm sound h k s r = absurd (text_or k.events (counted_at place k) h)
  refused_once (Unlawful at) (Differs place) x y a b calm sound h k s r = absurd (lawful_so place at k h)
  refused_once (Differs place) (Journal q) x y a b calm sound h k s r = absurd (read_or q (printed d) h.events (counted_at place h) k)
  refused_once (Differs place) OtherDesign x y a b calm sound h k s r = absurd (text_or h.events (counted_at place h) k)
  refused_once (Differs place) (Unlawful at) x y a b calm sound h k s r = absurd (lawful_so place at h k)
  refused_once (Differs place) (Differs to) x y a b calm sound h k s r = ap (λ n. Differs n) (one_differing d file place to h k)
  refused_once Disk f x y a b calm sound h k s r = absurd (calm h)
  refused_once Memory f x y a b calm sound h k s r = absurd s
  refused_once (Journal p) Disk x y a b calm sound h k s r = absurd (sound k)
  refused_once (Journal p) Memory x y a b calm sound h k s r = absurd r
  refused_once OtherDesign Disk x y a b calm sound h k s r = absurd (sound k)
  refused_once OtherDesign Memory x y a b calm sound h k s r = absurd r
  refused_once (Unlawful at) Disk x y a b calm sound h k s r = absurd (sound k)
  refused_once (Unlawful at) Memory x y a b calm sound h k s r = absurd r
  refused_once (Differs place) Disk x y a b calm sound h k s r = absurd (sound k)
  refused_once (Differs place) Memory x y a b calm sound h k s r = absurd r

  -- what is recovered isn't refused
  pub recovered_or : (found : List Event) (last : World) (e : RecoverError) (x : Type 0) (b : Telling) → ¬ x → Counts file (printed d) found
      → HasSeals d found file → IsRecovery d found last → RefusesRecovery d e (Some file) x → SaysNotRecovered e b → ⊥
  recovered_or found last (Journal q) x b calm c sealed r k s = read_or q (printed d) found c k
  recovered_or found last OtherDesign x b calm c sealed r k s = text_or found c k
  recovered_or found last (Unlawful at) x b calm c sealed r k s =
      lawful_or d k.events start r.first k.here at
      (subst (λ (es : List Event). LeadLawfully d start es r.first) (same_events found k.events c k.counts) r.comes) k.first
  recovered_or found last (Differs place) x b calm c sealed r k s = sealed_or d file found place sealed k
  recovered_or found last Disk x b calm c sealed r k s = calm k
  recovered_or found last Memory x b calm c sealed r k s = s

  untold_or : (found : List Event) (last : World) (told' : Option (List ℕ)) (x : Type 0) (b : Telling) → ¬ x → Counts file (printed d) found
      → HasSeals d found file → IsRecovery d found last → EndsUntold d (Some file) told' x b → ⊥
  untold_or found last told' x b calm c sealed r (inl k) = recovered_or found last k.error x b calm c sealed r k.cause k.says
  untold_or found last told' x b calm c sealed r (inr k) = calm k.failed

  module _ (text : World → ℕ → List ℕ) (one other : Option (List ℕ)) (a b : Telling) where
    last_once : (h : Recovers text d (Some file) one a) (k : Recovers text d (Some file) other b) → h.last ≡ k.last
    last_once h k =
        one_recovery d k.found h.last k.last
        (subst (λ (es : List Event). IsRecovery d es h.last) (same_events h.found k.found h.counts k.counts) h.recovery) k.recovery

    recovers_once : Recovers text d (Some file) one a → Recovers text d (Some file) other b → a ≡ b
    recovers_once h k =
        let found = same_events h.found k.found h.counts k.counts in
        let last = last_once h k in
        let were = subst (λ (es : List Event). LeavesUnfinished d es h.compensated) found h.unfinished_were in
        let first = lead_once d k.found start were.first k.unfinished_were.first were.comes k.unfinished_were.comes in
        let count : h.compensated ≡ k.compensated = were.count_is ∙ ap (λ (w : World). length (unfinished w)) first
        ∙ sym k.unfinished_were.count_is in
        let said : text h.last h.compensated ≡ text k.last k.compensated = λ i. text (last i) (count i) in
        telling_same a b (h.says.0 ∙ sym k.says.0) (h.says.1 ∙ said ∙ sym k.says.1)
        (h.says.2 ∙ ap (λ (w : World). w.events) last ∙ sym k.says.2)
        (h.says.3 ∙ ap (λ (w : World). length w.events) last ∙ sym k.says.3)

    pub refuses_once : (x y : Type 0) → ¬ x → ¬ y → RefusesSo d (Some file) one x a → RefusesSo d (Some file) other y b → a ≡ b
    refuses_once x y calm sound h k =
        let same = refused_once h.error k.error x y a b calm sound h.cause k.cause h.says k.says in
        not_recovered_once k.error a b (subst (λ (e : RecoverError). SaysNotRecovered e a) same h.says) k.says

    -- nor of a call that tells of no recovered state
    untold_once : (x y : Type 0) → ¬ x → ¬ y → EndsUntold d (Some file) one x a → EndsUntold d (Some file) other y b → a ≡ b
    untold_once x y calm sound (inl h) (inl k) = refuses_once x y calm sound h k
    untold_once x y calm sound (inr h) k = absurd (calm h.failed)
    untold_once x y calm sound (inl h) (inr k) = absurd (sound k.failed)

    pub recovering_once : (x y : Type 0) → ¬ x → ¬ y → RecoversJournal text d (Some file) one x a
        → RecoversJournal text d (Some file) other y b → a ≡ b
    recovering_once x y calm sound (inl h) (inl k) = recovers_once h k
    recovering_once x y calm sound (inl h) (inr k) = absurd (untold_or h.found h.last other y b sound h.counts h.sealed h.recovery k)
    recovering_once x y calm sound (inr h) (inl k) = absurd (untold_or k.found k.last one x a calm k.counts k.sealed k.recovery h)
    recovering_once x y calm sound (inr h) (inr k) = untold_once x y calm sound h k

  -- ---- which conditions are true of one state

  ending_once : (s : TableSet) (x y : List Row) (e f : Ending) → x ≡ y → EndsByRows s x e → EndsByRows s y f → e ≡ f
  ending_once s x y e f same (inl h) (inl k) = h.0 ∙ sym k.0
  ending_once s x y e f same (inl h) (inr k) = absurd (k.1 (subst (AreConsistent s) same h.1))
  ending_once s x y e f same (inr h) (inl k) = absurd (h.1 (subst (AreConsistent s) (sym same) k.1))
  ending_once s x y e f same (inr h) (inr k) = h.0 ∙ sym k.0

  module _ (s : TableSet) (one other : Option (List ℕ)) (a b : Telling) where
    verifies_once : Verifies s d (Some file) one a → Verifies s d (Some file) other b → a ≡ b
    verifies_once h k =
        let p = done_with a.text a.history a.settled in
        let q = done_with b.text b.history b.settled in
        let told = recovers_once (verdicts_text s) one other p q h.recovers k.recovers in
        let last = last_once (verdicts_text s) one other p q h.recovers k.recovers in
        telling_same a b
        (ending_once s h.recovers.last.rows k.recovers.last.rows a.ending b.ending (ap (λ (w : World). w.rows) last) h.ending k.ending)
        (ap (λ (t : Telling). t.text) told) (ap (λ (t : Telling). t.history) told) (ap (λ (t : Telling). t.settled) told)

    pub verifying_once : (x y : Type 0) → ¬ x → ¬ y → VerifiesJournal s d (Some file) one x a → VerifiesJournal s d (Some file) other y b
        → a ≡ b
    verifying_once x y calm sound (inl h) (inl k) = verifies_once h k
    verifying_once x y calm sound (inl h) (inr k) =
        let r = h.recovers in absurd (untold_or r.found r.last other y b sound r.counts r.sealed r.recovery k)
    verifying_once x y calm sound (inr h) (inl k) =
        let r = k.recovers in absurd (untold_or r.found r.last one x a calm r.counts r.sealed r.recovery h)
    verifying_once x y calm sound (inr h) (inr k) = untold_once (verdicts_text s) one other a b x y calm sound h k
