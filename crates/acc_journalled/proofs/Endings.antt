-- What a command's parts come to.
use Rattle.std.proofs.Common.{◌≡◌, inl, inr, ℕ, List, [], ◌∷◌, length, Option, Some, None, Result, refl, sym, subst}
use Rattle.std.specs.Prelude.{◌≢◌, IfSome, codes}
use Rattle.std.specs.declared.alloc.AllocError.{AllocError}
use Rattle.acc_base.specs.Lines.{line}
use Rattle.acc_disk.specs.Crashes.{Only, IsCalm}
use Rattle.acc_disk.specs.Moments.{AtAnyMoment}
use Rattle.acc_base.specs.declared.designs.Design.{Design}
use Rattle.acc_base.specs.declared.machines.Event.{Event}
use Rattle.acc_base.specs.Machine.{World}
use Rattle.acc_print.specs.Designs.{printed}
use Rattle.tpcc_tables.specs.declared.tables.TableSet.{TableSet}
use Rattle.acc_wal.specs.Journals.{Counts}
use Rattle.acc_wal.specs.Wals.{Journal, IsOpened}
use Rattle.acc_wal.specs.declared.items.Seal.{Seal}
use Rattle.acc_wal.specs.Creating.{rest_of, IsThere, RefusesNew}
use Rattle.acc_wal.specs.Attaching.{IsOfBytes as IsOfBytesOld}
use Rattle.acc_wal.specs.declared.errors.WalError.{WalError}
use Rattle.acc_wal.specs.declared.errors.WalError.TheVariants.{Exists, NotJournal, OtherVersion, Damaged, Disk, Spent, Memory}
use Rattle.acc_wal.proofs.Keeping.{calm_is}
use Rattle.acc_wal.proofs.Moments.{started, if_some}
use Rattle.acc_recover.specs.Seals.{IsSealed, HasSeals}
use Rattle.acc_recover.specs.Recoveries.{LeavesRecovery}
use Rattle.acc_recover.specs.Refusals.{RefusesRecovery, IsOfBytes, IsOfJournal, CountsSame}
use Rattle.acc_recover.specs.declared.errors.RecoverError.{RecoverError}
use Rattle.acc_recover.specs.declared.errors.RecoverError.TheVariants as recovery
use Rattle.acc_journalled.specs.declared.answers.Answer.{Answer}
use Rattle.acc_journalled.specs.declared.answers.Ending.TheVariants.{Done, DiskFailed}
use Rattle.acc_journalled.specs.Tellings.{Telling, Says, SaysOf}
use Rattle.acc_journalled.specs.Making.{IsMakingError, SaysNotMade, MakesJournal}
use Rattle.acc_journalled.specs.Conditions.{conditions_text, EndsByRows}
use Rattle.acc_journalled.specs.Recovering.{IsRecoverError, SaysNotRecovered, Recovers, RefusesSo, RecoversJournal, TellsRecovered}
use Rattle.acc_journalled.specs.Recovering.{done_with, RecoversState, TellsUntold, LeavesTold}
use Rattle.acc_journalled.specs.Verifying.{VerifiesJournal, verdicts_text}

-- the disk of a journal that isn't spent holds its base text and its durable events
pub holds : {D : Type 0} (wal : Journal D) (base : List ℕ) (events : List Event) (told : Option (List ℕ)) → IsOpened base events wal
    → ((file : List ℕ) → told ≡ Some file → Counts file wal.base wal.durable) → IfSome told (λ file. Counts file base events)
holds wal base events None opened counts = tt
holds wal base events (Some file) opened counts =
    subst (λ (b : List ℕ). Counts file b events) opened.base_is
    (subst (λ (es : List Event). Counts file wal.base es) opened.durable_is (counts file refl))

-- ---- making

pub making : (error : WalError) (told : Option (List ℕ)) (fault : Type 0) → RefusesNew error told fault → IsMakingError error
making Exists told fault why = tt
making NotJournal told fault why = absurd why
making (OtherVersion version) told fault why = absurd why
making (Damaged place) told fault why = absurd why
making Disk told fault why = tt
making Spent told fault why = absurd why
making Memory told fault why = tt

-- it was made: these bytes stand there now
pub made_so : (d : Design) (told told' : Option (List ℕ)) (fault : Type 0) (t : Telling) → IfSome told (λ file. ¬ IsThere file)
    → IfSome told' (λ file. file ≡ 0xA5 ∷ rest_of (printed d)) → IfSome told' (λ file. Counts file (printed d) [])
    → Says Done (line (codes "created")) t → MakesJournal d told told' fault t
made_so d told told' fault t fresh made holds says = inl (record { fresh = fresh; made = made; holds = holds; says = says })

pub not_made_so : (error : WalError) (d : Design) (told told' : Option (List ℕ)) (fault : Type 0) (t : Telling)
    → RefusesNew error told fault → (IsOfBytesOld error → told' ≡ told) → SaysNotMade error t → MakesJournal d told told' fault t
not_made_so Exists d told told' fault t why same says = inr (inl (record { there = why; same = same tt; says = says }))
not_made_so NotJournal d told told' fault t why same says = absurd says
not_made_so (OtherVersion version) d told told' fault t why same says = absurd says
not_made_so (Damaged place) d told told' fault t why same says = absurd says
not_made_so Disk d told told' fault t why same says = inr (inr (record { failed = why; says = says }))
not_made_so Spent d told told' fault t why same says = absurd says
not_made_so Memory d told told' fault t why same says = absurd says

-- where no call of the disk failed, a journal was there
pub was_there : (error : WalError) (t : Telling) → SaysNotMade error t → t.ending ≢ DiskFailed → error ≡ Exists
was_there Exists t says none = refl
was_there NotJournal t says none = absurd says
was_there (OtherVersion version) t says none = absurd says
was_there (Damaged place) t says none = absurd says
was_there Disk t says none = absurd (none says.0)
was_there Spent t says none = absurd says
was_there Memory t says none = absurd says

-- ---- recovering

pub recovering : (error : RecoverError) (d : Design) (told : Option (List ℕ)) (fault : Type 0) → RefusesRecovery d error told fault
    → IsRecoverError error
recovering (recovery.Journal Exists) d told fault why = absurd why
recovering (recovery.Journal NotJournal) d told fault why = tt
recovering (recovery.Journal (OtherVersion version)) d told fault why = tt
recovering (recovery.Journal (Damaged place)) d told fault why = tt
recovering (recovery.Journal Disk) d told fault why = absurd why
recovering (recovery.Journal Spent) d told fault why = absurd why
recovering (recovery.Journal Memory) d told fault why = absurd why
recovering recovery.OtherDesign d told fault why = tt
recovering (recovery.Unlawful at) d told fault why = tt
recovering (recovery.Differs place) d told fault why = tt
recovering recovery.Disk d told fault why = tt
recovering recovery.Memory d told fault why = tt

-- some states, each as the rows were
pub sealed_so : (told : Option (List ℕ)) (d : Design) (events : List Event) (version : ℕ) (seals : List Seal)
    → IfSome told (IsSealed d version events seals) → IfSome told (HasSeals d events)
sealed_so None d events version seals sealed = tt
sealed_so (Some file) d events version seals sealed = (version, seals, sealed)

-- what is told of a recovered state
pub recovers_told : (text : World → ℕ → List ℕ) (d : Design) (told told' : Option (List ℕ)) (w : World) (compensated : ℕ) (t : Telling)
    → RecoversState d told told' w compensated → SaysOf (text w compensated) w t → Recovers text d told told' t
recovers_told text d told told' w compensated t state says = record {
  found = state.found;
  counts = state.counts;
  sealed = state.sealed;
  last = w;
  recovery = state.recovery;
  idle = state.idle;
  compensated = compensated;
  unfinished_were = state.unfinished_were;
  holds = state.holds;
  grown = state.grown;
  says = says;
}

pub recovered_so : (text : World → ℕ → List ℕ) (d : Design) (told told' : Option (List ℕ)) (fault : Type 0) (w : World) (compensated : ℕ)
    (t : Telling)
    → RecoversState d told told' w compensated → SaysOf (text w compensated) w t → RecoversJournal text d told told' fault t
recovered_so text d told told' fault w compensated t state says = inl (recovers_told text d told told' w compensated t state says)

-- each condition was tried on the recovered rows
pub verified_so : (s : TableSet) (d : Design) (told told' : Option (List ℕ)) (fault : Type 0) (w : World) (compensated : ℕ) (t : Telling)
    → RecoversState d told told' w compensated → t.text ≡ conditions_text s w.rows → EndsByRows s w.rows t.ending → t.history ≡ w.events
    → t.settled ≡ length w.events → VerifiesJournal s d told told' fault t
unfolding recovers_told
verified_so s d told told' fault w compensated t state says ends same all = inl (record {
  recovers =
      recovers_told (verdicts_text s) d told told' w compensated (done_with t.text t.history t.settled) state (refl, says, same, all);
  ending = ends;
})

-- where no call of the disk failed, the bytes gave cause for the refusal
pub was_of_bytes : (error : RecoverError) (t : Telling) → SaysNotRecovered error t → t.ending ≢ DiskFailed → IsOfBytes error
was_of_bytes (recovery.Journal error) t says none = tt
was_of_bytes recovery.OtherDesign t says none = tt
was_of_bytes (recovery.Unlawful at) t says none = tt
was_of_bytes (recovery.Differs place) t says none = tt
was_of_bytes recovery.Disk t says none = none says.0
was_of_bytes recovery.Memory t says none = says

-- whatever is said of it, the recovered history is told
pub recovered_tells : (text : World → ℕ → List ℕ) (d : Design) (told told' : Option (List ℕ)) (fault : Type 0) (w : World) (compensated : ℕ)
    (history : List Event) (settled : ℕ)
    → RecoversState d told told' w compensated → history ≡ w.events → settled ≡ length w.events
    → TellsRecovered text d told told' fault history settled
recovered_tells text d told told' fault w compensated history settled state same all =
    inr (inl (
      text w compensated,
      recovers_told text d told told' w compensated (done_with (text w compensated) history settled) state (refl, refl, same, all),
    ))

-- and so it is where nothing is said of it
pub untold_tells : (text : World → ℕ → List ℕ) (d : Design) (told told' : Option (List ℕ)) (fault : Type 0) (history : List Event)
    (settled : ℕ)
    → TellsUntold d told told' fault history settled → TellsRecovered text d told told' fault history settled
untold_tells text d told told' fault history settled (inl none) = inl none
untold_tells text d told told' fault history settled (inr stops) = inr (inr stops)

-- behind a call that leaves a calm disk a crash leaves what it holds
pub calm_told : (d : Design) (told : Option (List ℕ)) (may_leave : List ℕ → Type 0) (history : List Event) → IsCalm told may_leave
    → IfSome told (λ file. Counts file (printed d) history) → (image : List ℕ) → may_leave image → LeavesTold d history image
calm_told d told may_leave history calm holds image left =
    let now = calm_is told may_leave calm in
    inr (subst (λ f. Counts f (printed d) history) (sym (now.2 image left))
    (if_some told (λ file. Counts file (printed d) history) now.0 now.1 holds))

pub refuses_so : (error : RecoverError) (d : Design) (told told' : Option (List ℕ)) (fault : Type 0) (t : Telling)
    → RefusesRecovery d error told fault → (IsOfJournal error → told' ≡ told) → (IsOfBytes error → CountsSame told told')
    → SaysNotRecovered error t → RefusesSo d told told' fault t
refuses_so error d told told' fault t why same kept says =
    record { error = error; cause = why; same = same; kept = kept; says = says }

-- ---- no machine ran

-- a crash of a disk that was asked nothing leaves the file's bytes
pub leaves_file : {D : Type 0} (clock : D → ℕ) (left_since : D → ℕ → List ℕ → Type 0) (may_leave : List ℕ → Type 0) (d : Design)
    (file : List ℕ) (disk end : D) → end ≡ disk → ((image : List ℕ) → left_since disk (clock disk) image → may_leave image)
    → Only file may_leave → AtAnyMoment clock left_since disk end (LeavesRecovery d file)
leaves_file clock left_since may_leave d file disk end same only_now only =
    subst (λ x. AtAnyMoment clock left_since disk x (LeavesRecovery d file)) (sym same)
    (started clock left_since disk (LeavesRecovery d file) (λ image left. inl (only image (only_now image left))))

-- what is so of an unrun ending's parts
pub by_unrun : {D : Type 0} (P : D → Result Answer AllocError → List Event → ℕ → Type 0) (disk disk' : D)
    (answer answer' : Result Answer AllocError) (history : List Event) (settled : ℕ)
    → disk' ≡ disk → answer' ≡ answer → (history ≡ []) × (settled ≡ 0) → P disk answer [] 0 → P disk' answer' history settled
by_unrun P disk disk' answer answer' history settled same answered none so =
    subst (λ x. P x answer' history settled) (sym same)
    (subst (λ (r : Result Answer AllocError). P disk r history settled) (sym answered)
    (subst (λ (es : List Event). P disk answer es settled) (sym none.0)
    (subst (λ (n : ℕ). P disk answer [] n) (sym none.1) so)))
