-- A command line means one answer, on a shelf that tells what stands at each name, where no read fails.
use Rattle.std.proofs.Common.{◌≡◌, ℕ, zero, suc, true, List, [], ◌∷◌, ◌++◌, length, Option, None, Some, refl, sym, ap, subst, ◌∙◌, inl, inr}
use Rattle.std.proofs.Common.{⊎_elim, arith}
use Rattle.std.specs.Prelude.{◌≢◌}
use Rattle.acc_io.specs.Causes.{one_more, Rose}
use Rattle.acc_io.specs.Counted.{after_files, after_refusal}
use Rattle.acc_io.specs.Shelves.{Told, IsFile, IsRefused}
use Rattle.acc_io.specs.declared.counts.Counts.{Counts}
use Rattle.acc_io.specs.declared.shelf.ShelfError.{ShelfError}
use Rattle.acc_io.specs.declared.shelf.ShelfError.TheVariants.{Failed, Absent, Long, Memory}
use Rattle.acc_commands.specs.Command.{Command}
use Rattle.acc_journalled.specs.declared.answers.Ending.{Ending}
use Rattle.acc_cli.specs.declared.status.Status.TheVariants.{Ran}
use Rattle.acc_journalled.specs.Tellings.{Telling}
use Rattle.acc_commands.specs.Disks.{Seen, TellsAll}
use Rattle.acc_cli.specs.Replies.{Reply}
use Rattle.acc_commands.specs.Words.{command_of, files_of, points_of, is_journalled, is_over_journal}
use Rattle.acc_commands.specs.Files.{AreFiles, SaysRefused}
use Rattle.acc_commands.specs.Means.{Means}
use Rattle.acc_commands.specs.Alike.{AreAlike as Alike}
use Rattle.acc_cli.specs.Meant.{RefusesFile, Runs, MeansForm, Meant}
use Rattle.acc_cli.specs.Provings.{AreAlike}
use Rattle.acc_commands.proofs.OneMeaning.{one_meaning}

-- ---- what stands at a name is told in one way

-- a refusal that speaks of what stands at the name
abbrev pub Speaks : ShelfError → Type 0
Speaks Failed = ⊥
Speaks Absent = Unit {0}
Speaks (Long n) = Unit {0}
Speaks Memory = ⊥

one_file : (told : Told) (f g : List ℕ) → told ≢ None → IsFile told f → IsFile told g → f ≡ g
one_file None f g tells h k = absurd (tells refl)
one_file (Some file) f g tells h k = let e : Some f ≡ Some g = sym h.1 ∙ k.1 in cc

file_or_refused : (told : Told) (f : List ℕ) (e : ShelfError) → told ≢ None → Speaks e → IsFile told f → IsRefused told e → ⊥
file_or_refused told f Failed tells speaks h k = speaks
file_or_refused None f Absent tells speaks h k = tells refl
file_or_refused (Some file) f Absent tells speaks h k = let e : Some f ≡ None = sym h.1 ∙ k in cc
file_or_refused None f (Long n) tells speaks h k = tells refl
file_or_refused (Some None) f (Long n) tells speaks h k = k.1
file_or_refused (Some (Some bytes)) f (Long n) tells speaks h k =
    let same : bytes ≡ f = (let e : Some bytes ≡ Some f = h.1 in cc) in
    absurd (omega (arith, h.0, k.0, k.1, ap length same))
file_or_refused told f Memory tells speaks h k = speaks

one_refusal : (told : Told) (e f : ShelfError) → told ≢ None → Speaks e → Speaks f → IsRefused told e → IsRefused told f → e ≡ f
one_refusal told Failed f tells s t h k = absurd s
one_refusal told Memory f tells s t h k = absurd s
one_refusal told Absent Failed tells s t h k = absurd t
one_refusal told Absent Memory tells s t h k = absurd t
one_refusal told Absent Absent tells s t h k = refl
one_refusal None Absent (Long n) tells s t h k = absurd (tells refl)
one_refusal (Some None) Absent (Long n) tells s t h k = absurd k.1
one_refusal (Some (Some bytes)) Absent (Long n) tells s t h k = cc
one_refusal told (Long n) Failed tells s t h k = absurd t
one_refusal told (Long n) Memory tells s t h k = absurd t
one_refusal None (Long n) Absent tells s t h k = absurd (tells refl)
one_refusal (Some None) (Long n) Absent tells s t h k = absurd h.1
one_refusal (Some (Some bytes)) (Long n) Absent tells s t h k = cc
one_refusal None (Long n) (Long m) tells s t h k = absurd (tells refl)
one_refusal (Some None) (Long n) (Long m) tells s t h k = absurd h.1
one_refusal (Some (Some bytes)) (Long n) (Long m) tells s t h k = ap (λ l. Long l) (sym h.1 ∙ k.1)

-- ---- the files of names, and the first that is refused

module _ (held : List ℕ → Told) (tells : (name : List ℕ) → held name ≢ None) where
  pub one_files : (names files other : List (List ℕ)) → AreFiles held names files → AreFiles held names other → files ≡ other
  one_files [] [] [] h k = refl
  one_files [] [] (g ∷ gs) h k = absurd k
  one_files [] (f ∷ fs) other h k = absurd h
  one_files (n ∷ ns) [] other h k = absurd h
  one_files (n ∷ ns) (f ∷ fs) [] h k = absurd k
  one_files (n ∷ ns) (f ∷ fs) (g ∷ gs) h k =
      λ i. (one_file (held n) f g (tells n) h.0 k.0 i ∷ one_files ns fs gs h.1 k.1 i)

  -- names that all have files have none that is refused
  pub given_or_refused : (before after files earlier : List (List ℕ)) (name : List ℕ) (e : ShelfError) → Speaks e
      → AreFiles held (before ++ name ∷ after) files → AreFiles held before earlier → IsRefused (held name) e → ⊥
  given_or_refused [] after [] earlier name e s all h k = all
  given_or_refused [] after (f ∷ fs) earlier name e s all h k = file_or_refused (held name) f e (tells name) s all.0 k
  given_or_refused (n ∷ ns) after [] earlier name e s all h k = all
  given_or_refused (n ∷ ns) after (f ∷ fs) [] name e s all h k = h
  given_or_refused (n ∷ ns) after (f ∷ fs) (g ∷ gs) name e s all h k = given_or_refused ns after fs gs name e s all.1 h.1 k

  pub one_first : (before other after rest files earlier : List (List ℕ)) (name label : List ℕ) (e f : ShelfError) → Speaks e → Speaks f
      → before ++ name ∷ after ≡ other ++ label ∷ rest → AreFiles held before files → AreFiles held other earlier
      → IsRefused (held name) e → IsRefused (held label) f → (name ≡ label) × (e ≡ f)
  one_first [] [] after rest files earlier name label e f s t same h k r q =
      let name_is : name ≡ label = cc in
      (name_is, one_refusal (held label) e f (tells label) s t (subst (λ n. IsRefused (held n) e) name_is r) q)
  one_first [] (o ∷ os) after rest files [] name label e f s t same h k r q = absurd k
  one_first [] (o ∷ os) after rest files (g ∷ gs) name label e f s t same h k r q =
      let name_is : name ≡ o = cc in
      absurd (file_or_refused (held o) g e (tells o) s k.0 (subst (λ n. IsRefused (held n) e) name_is r))
  one_first (n ∷ ns) [] after rest [] earlier name label e f s t same h k r q = absurd h
  one_first (n ∷ ns) [] after rest (g ∷ gs) earlier name label e f s t same h k r q =
      let name_is : n ≡ label = cc in
      absurd (file_or_refused (held label) g f (tells label) t (subst (λ m. IsFile (held m) g) name_is h.0) q)
  one_first (n ∷ ns) (o ∷ os) after rest [] earlier name label e f s t same h k r q = absurd h
  one_first (n ∷ ns) (o ∷ os) after rest (g ∷ gs) [] name label e f s t same h k r q = absurd k
  one_first (n ∷ ns) (o ∷ os) after rest (g ∷ gs) (i ∷ is) name label e f s t same h k r q =
      let behind : ns ++ name ∷ after ≡ os ++ label ∷ rest = cc in
      one_first ns os after rest gs is name label e f s t behind h.1 k.1 r q

-- ---- where no read fails, the refusal speaks

same_faults : (n : ℕ) (counts : Counts) → (after_files n counts).faults ≡ counts.faults
same_faults zero counts = refl
same_faults (suc n) counts = same_faults n counts

must_speak : (n : ℕ) (counts now : Counts) (e : ShelfError) (text name : List ℕ) → ¬ Rose counts.faults now.faults
    → now ≡ after_refusal (after_files n counts) e → SaysRefused name e text → Speaks e
must_speak n counts now Failed text name none is said =
    let rose : now.faults ≡ one_more counts.faults = ap (λ c. c.faults) is ∙ ap one_more (same_faults n counts) in
    none (omega (arith, rose))
must_speak n counts now Absent text name none is said = tt
must_speak n counts now (Long m) text name none is said = tt
must_speak n counts now Memory text name none is said = said

one_text : (name label : List ℕ) (e f : ShelfError) (t u : List ℕ) → name ≡ label → e ≡ f → Speaks e → SaysRefused name e t →
    SaysRefused label f u → t ≡ u
one_text name label Failed f t u same is s h k = absurd s
one_text name label Memory f t u same is s h k = absurd s
one_text name label Absent f t u same is s h k =
    h ∙ sym (subst (λ x. SaysRefused x Absent u) (sym same) (subst (λ x. SaysRefused label x u) (sym is) k))
one_text name label (Long n) f t u same is s h k =
    h ∙ sym (subst (λ x. SaysRefused x (Long n) u) (sym same) (subst (λ x. SaysRefused label x u) (sym is) k))

-- ---- answers

module _ (held : List ℕ → Told) (tells : (name : List ℕ) → held name ≢ None) (counts one other : Counts)
    (first : ¬ Rose counts.faults one.faults) (second : ¬ Rose counts.faults other.faults) (disk disk_one disk_other : Seen) where
  both_refuse : (names : List (List ℕ)) (a b : Reply) → RefusesFile held counts one disk disk_one names a
      → RefusesFile held counts other disk disk_other names b → a ≡ b
  both_refuse names a b (status, none, (name, e, h, said)) (status', none', (label, f, k, told)) =
      let s = must_speak (length h.before) counts one e a.text name first h.counted said in
      let t = must_speak (length k.before) counts other f b.text label second k.counted told in
      let same = one_first held tells h.before k.before h.after k.after h.files k.files name label e f s t (sym h.place ∙ k.place) h.read
      k.read h.refused k.refused in
      let text = one_text name label e f a.text b.text same.0 same.1 s said told in
      λ i. record {
        status = (status ∙ sym status') i;
        text = text i;
        history = (none.0 ∙ sym none'.0) i;
        settled = (none.1 ∙ sym none'.1) i;
      }

  pub given_and_refused : (names files : List (List ℕ)) (now : Counts) (disk_now : Seen) (b : Reply) → ¬ Rose counts.faults now.faults →
      AreFiles held names files → RefusesFile held counts now disk disk_now names b → ⊥
  given_and_refused names files now disk_now b none given (status, history, (label, f, k, told)) =
      let t = must_speak (length k.before) counts now f b.text label none k.counted told in
      given_or_refused held tells k.before k.after files k.files label f t (subst (λ ns. AreFiles held ns files) k.place given) k.read
      k.refused

  alike : (command : Command) (a b : Reply) (ending ending' : Ending) → a.status ≡ Ran ending → b.status ≡ Ran ending'
      → (words : List (List ℕ)) → command_of words ≡ Some command
      → Alike command (record { ending = ending; text = a.text; history = a.history; settled = a.settled })
      (record { ending = ending'; text = b.text; history = b.history; settled = b.settled }) → AreAlike words a b
  alike command a b ending ending' status status' words is (inl said) =
      let ended : a.status ≡ b.status = status ∙ ap (λ (s : Telling). Ran s.ending) said ∙ sym status' in
      inl (λ i. record { status = ended i; text = (said i).text; history = (said i).history; settled = (said i).settled })
  alike command a b ending ending' status status' words is (inr (inl both)) = inr (inl (record {
    is_prove = is ∙ ap Some both.is_prove;
    one_done = status ∙ ap Ran both.one_done;
    other_done = status' ∙ ap Ran both.other_done;
    history = both.history;
    settled = both.settled;
  }))
  alike command a b ending ending' status status' words is (inr (inr both)) = inr (inr (record {
    workers = both.workers;
    is_run = is ∙ ap Some both.is_run;
    one_whole = ⊎_elim (λ e. inl (status ∙ ap Ran e)) (λ e. inr (status ∙ ap Ran e)) both.one_whole;
    other_whole = ⊎_elim (λ e. inl (status' ∙ ap Ran e)) (λ e. inr (status' ∙ ap Ran e)) both.other_whole;
  }))

  both_run : (command : Command) (words : List (List ℕ)) (a b : Reply) → command_of words ≡ Some command
      → (is_journalled command ≡ true → TellsAll disk disk_one disk_other)
      → Runs held counts one disk disk_one command (points_of command words) (files_of command words) a
      → Runs held counts other disk disk_other command (points_of command words) (files_of command words) b → AreAlike words a b
  both_run command words a b is all (files, given, counted, (ending, status, means))
      (files', given', counted', (ending', status', means')) =
      let same : files' ≡ files = one_files held tells (files_of command words) files' files given' given in
      alike command a b ending ending' status status' words is (one_meaning command (points_of command words) files disk disk_one disk_other
      (record { ending = ending; text = a.text; history = a.history; settled = a.settled })
      (record { ending = ending'; text = b.text; history = b.history; settled = b.settled }) all means
      (subst (λ fs. Means command (points_of command words) fs disk disk_other
      (record { ending = ending'; text = b.text; history = b.history; settled = b.settled })) same means'))

  pub of_form : (form : Option Command) (words : List (List ℕ)) (a b : Reply) → command_of words ≡ form
      → (is_over_journal form ≡ true → TellsAll disk disk_one disk_other) → MeansForm held counts one disk disk_one words form a
      → MeansForm held counts other disk disk_other words form b → AreAlike words a b
  of_form None words a b is all h k = inl (λ i. record {
    status = (h.0 ∙ sym k.0) i;
    text = (h.2 ∙ sym k.2) i;
    history = (h.3.0 ∙ sym k.3.0) i;
    settled = (h.3.1 ∙ sym k.3.1) i;
  })
  of_form (Some command) words a b is all (inl h) (inl k) = inl (both_refuse (files_of command words) a b h k)
  of_form (Some command) words a b is all (inl h) (inr k) =
      absurd (given_and_refused (files_of command words) k.0 one disk_one a first k.1 h)
  of_form (Some command) words a b is all (inr h) (inl k) =
      absurd (given_and_refused (files_of command words) h.0 other disk_other b second h.1 k)
  of_form (Some command) words a b is all (inr h) (inr k) = both_run command words a b is all h k

pub one_answer : (held : List ℕ → Told) (counts one other : Counts) (disk disk_one disk_other : Seen) (words : List (List ℕ)) (a b : Reply)
    → ((name : List ℕ) → held name ≢ None) → ¬ Rose counts.faults one.faults → ¬ Rose counts.faults other.faults
    → (is_over_journal (command_of words) ≡ true → TellsAll disk disk_one disk_other)
    → Meant held counts one disk disk_one words a → Meant held counts other disk disk_other words b → AreAlike words a b
one_answer held counts one other disk disk_one disk_other words a b tells first second all h k =
    of_form held tells counts one other first second disk disk_one disk_other (command_of words) words a b refl all h k
