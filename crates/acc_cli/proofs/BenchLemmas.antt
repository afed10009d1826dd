-- What `bench` tells.
use Rattle.std.proofs.Common.{◌≡◌, ℕ, List, [], ◌∷◌, Option, Some, inl, inr, sym, ap, subst, ◌∙◌, arith, ⊎_elim}
use Rattle.std.specs.Prelude.{◌⊎◌}
use Rattle.acc_base.specs.declared.designs.Design.{Design}
use Rattle.acc_base.specs.declared.machines.Call.{Call}
use Rattle.acc_base.specs.declared.machines.Event.{Event}
use Rattle.acc_bench.specs.Answers.{bench_ending}
use Rattle.acc_commands.specs.Schedules.{EndsWell}
use Rattle.acc_io.specs.Shelves.{Told}
use Rattle.acc_io.specs.Sinks.{WritesFront}
use Rattle.std.specs.Io.KnownBytes.{Appends}
use Rattle.acc_io.specs.declared.counts.Counts.{Counts}
use Rattle.acc_script.specs.CallLines.{IsScript}
use Rattle.tpcc_tables.specs.Schema.{IsSchemaOf}
use Rattle.tpcc_tables.specs.declared.tables.TableSet.{TableSet}
use Rattle.acc_journalled.specs.declared.answers.Ending.{Ending}
use Rattle.acc_journalled.specs.declared.answers.Ending.TheVariants.{Done, DesignRefused, ScriptRefused}
use Rattle.acc_commands.specs.Admissions.{IsAcceptedWith}
use Rattle.acc_commands.specs.BenchFiles.{SaysOfMix, SaysOfLoad, SaysOfTables, BenchesCertified, BenchesFiles}
use Rattle.acc_commands.specs.Command.{Command}
use Rattle.acc_commands.specs.Command.TheVariants as command
use Rattle.acc_commands.specs.Disks.{Seen}
use Rattle.acc_commands.specs.Files.{AreFiles}
use Rattle.acc_commands.specs.Means.{MeansOfFiles}
use Rattle.acc_commands.specs.Mix.{Mix}
use Rattle.acc_commands.specs.Overs.{IsRunOf}
use Rattle.acc_commands.specs.Text.{Said}
use Rattle.acc_commands.specs.Texts.{IsDesignText}
use Rattle.acc_commands.specs.Words.{command_of, files_of, points_of, is_over_journal}
use Rattle.acc_commands.specs.Workloads.{load_said}
use Rattle.acc_commands.proofs.JournalEndings.{refusal_ends, refusal_tells_none}
use Rattle.acc_cli.specs.declared.status.Status.{Status}
use Rattle.acc_cli.specs.declared.status.Status.TheVariants.{File, Sink, Ran}
use Rattle.acc_cli.specs.Answered.{Answered, Ends}
use Rattle.acc_cli.specs.Benches.{TellsBench}
use Rattle.acc_cli.specs.Meant.{MeansForm, Meant}
use Rattle.acc_cli.specs.Promises.{KeepsPromise}
use Rattle.acc_cli.specs.Replies.{Reply}
use Rattle.acc_cli.specs.Status.{code_of}
use Rattle.acc_cli.proofs.StatusLemmas.{zero_is_done}

-- the design or a script stood against it, and no history is told
abbrev IsRefused : Said → Type 0
IsRefused said = ((said.ending ≡ DesignRefused) ⊎ (said.ending ≡ ScriptRefused)) × (said.history ≡ [])

-- ---- the design with its certificate

module _ (m : Mix) (said : Said) (d : Design) where
  of_mix : (s : TableSet) → IsSchemaOf s d → (load : List Call) → IsScript d (load_said m.scale) load → SaysOfMix d s m load said
      → IsRefused said ⊎ IsRunOf m d said
  of_mix s schema load is_load (inl h) = inl (inr h.says.0, h.says.2)
  of_mix s schema load is_load (inr h) = inr (record {
    tables = s;
    schema = schema;
    load = load;
    is_load = is_load;
    calls = h.calls;
    is_mix = h.is_script;
    says = h.says;
  })

  of_load : (s : TableSet) → IsSchemaOf s d → SaysOfLoad d s m said → IsRefused said ⊎ IsRunOf m d said
  of_load s schema (inl h) = inl (inr h.says.0, h.says.2)
  of_load s schema (inr h) = of_mix s schema h.calls h.is_script h.says

  of_tables : SaysOfTables d m said → IsRefused said ⊎ IsRunOf m d said
  of_tables (inl h) = inl (inl h.says.0, h.says.2)
  of_tables (inr h) = of_load h.tables h.schema h.says

module _ (held : List ℕ → Told) (words : List (List ℕ)) (m : Mix) where
  -- the files are given, the design is accepted and has TPC-C's tables, and the load and the mix ran
  record HasRun (said : Said) : Type 0 where
    design : List ℕ
    certificate : List ℕ
    given : AreFiles held (files_of (command.Bench m) words) (design ∷ certificate ∷ [])
    d : Design
    is_text : IsDesignText design d
    accepted : IsAcceptedWith d certificate
    run : IsRunOf m d said

  of_files : (design certificate : List ℕ) (said : Said) → AreFiles held (files_of (command.Bench m) words) (design ∷ certificate ∷ [])
      → BenchesFiles m design certificate said → IsRefused said ⊎ HasRun said
  of_files design certificate said given (inl h) = inl (inl (refusal_ends design said h), refusal_tells_none design said h)
  of_files design certificate said given (inr h) = certified h.says
    where
      certified : BenchesCertified h.d certificate m said → IsRefused said ⊎ HasRun said
      certified (inl r) = inl (inl r.ending, r.history)
      certified (inr r) =
          ⊎_elim (λ refused. inl refused) (λ run. inr (record {
            design = design;
            certificate = certificate;
            given = given;
            d = h.d;
            is_text = h.is_text;
            accepted = r.accepted;
            run = run;
          })) (of_tables m said h.d r.says)

  of_command : (points files : List (List ℕ)) (said : Said) → AreFiles held (files_of (command.Bench m) words) files
      → MeansOfFiles (command.Bench m) points files said → IsRefused said ⊎ HasRun said
  unfolding MeansOfFiles
  of_command points [] said given h = absurd h
  of_command points (design ∷ []) said given h = absurd h
  of_command points (design ∷ certificate ∷ []) said given h = of_files design certificate said given h
  of_command points (design ∷ certificate ∷ more ∷ rest) said given h = absurd h

  -- ---- the program's answer

  module _ (old new : Option (List ℕ)) (fault : Type 0) (status : Status) (history : List Event) (settled : ℕ) where
    abbrev Tells : Type 0
    Tells = TellsBench held words m old new (code_of status) history

    -- no history is told under one of these statuses
    untold : (code_of status ≡ 2) ⊎ (code_of status ≡ 3) ⊎ (code_of status ≡ 6) ⊎ (code_of status ≡ 9) → history ≡ [] → Tells
    untold code none = inl (
      λ e. absurd (omega (arith, code, e)),
      λ e. absurd (omega (arith, code, e)),
      λ e. absurd (omega (arith, code, e)),
      λ e. absurd (omega (arith, code, e)),
      none,
    )

    module _ (meant : Reply) (ends : Ends meant old new fault status history settled) where
      refused_code : (ending : Ending) → meant.status ≡ Ran ending → (ending ≡ DesignRefused) ⊎ (ending ≡ ScriptRefused)
          → (code_of status ≡ 2) ⊎ (code_of status ≡ 3) ⊎ (code_of status ≡ 6) ⊎ (code_of status ≡ 9)
      refused_code ending is which = by ends.given_is which
        where
          by : (status ≡ meant.status) ⊎ ((meant.status ≡ Ran Done) × (status ≡ Sink) × fault)
              → (ending ≡ DesignRefused) ⊎ (ending ≡ ScriptRefused)
              → (code_of status ≡ 2) ⊎ (code_of status ≡ 3) ⊎ (code_of status ≡ 6) ⊎ (code_of status ≡ 9)
          by (inl same) (inl design) = inl (ap code_of (same ∙ is ∙ ap Ran design))
          by (inl same) (inr script) = inr (inl (ap code_of (same ∙ is ∙ ap Ran script)))
          by (inr sunk) (inl design) = (let e : Ran DesignRefused ≡ Ran Done = ap Ran (sym design) ∙ sym is ∙ sunk.0 in absurd cc)
          by (inr sunk) (inr script) = (let e : Ran ScriptRefused ≡ Ran Done = ap Ran (sym script) ∙ sym is ∙ sunk.0 in absurd cc)

      refused_told : (ending : Ending) → meant.status ≡ Ran ending
          → IsRefused (record { ending = ending; text = meant.text; history = meant.history }) → Tells
      refused_told ending is refused = untold (refused_code ending is refused.0) (ends.history_is ∙ refused.1)

      run_told : (ending : Ending) → meant.status ≡ Ran ending
          → HasRun (record { ending = ending; text = meant.text; history = meant.history }) → Tells
      run_told ending is j = inr (record {
        design = j.design;
        certificate = j.certificate;
        given = j.given;
        d = j.d;
        is_text = j.is_text;
        accepted = j.accepted;
        tables = j.run.tables;
        schema = j.run.schema;
        load = j.run.load;
        is_load = j.run.is_load;
        calls = j.run.calls;
        is_mix = j.run.is_mix;
        benched = j.run.says.benched;
        comes = j.run.says.comes;
        history_is = ends.history_is ∙ j.run.says.history;
        coded = coded ends.given_is;
        says = λ zero. subst (Appends old new) j.run.says.text (ends.done (zero_is_done status zero));
        front = subst (WritesFront old new) j.run.says.text ends.front;
      })
        where
          same_ending : (a b : Ending) → Ran a ≡ Ran b → a ≡ b
          same_ending a b e = cc

          coded : (status ≡ meant.status) ⊎ ((meant.status ≡ Ran Done) × (status ≡ Sink) × fault)
              → (code_of status ≡ code_of (Ran (bench_ending j.run.says.benched)))
              ⊎ ((code_of status ≡ 7) × (bench_ending j.run.says.benched ≡ Done))
          coded (inl same) = inl (ap code_of (same ∙ is ∙ ap Ran j.run.says.ending))
          coded (inr sunk) =
              inr (ap code_of sunk.1, sym j.run.says.ending ∙ same_ending ending Done (sym is ∙ sunk.0))

    of_form : (counts counts' : Counts) (disk disk' : Seen) (meant : Reply)
        → MeansForm held counts counts' disk disk' words (Some (command.Bench m)) meant
        → Ends meant old new fault status history settled → Tells
    of_form counts counts' disk disk' meant (inl refused) ends = untold (by ends.given_is) (ends.history_is ∙ refused.1.0)
      where
        by : (status ≡ meant.status) ⊎ ((meant.status ≡ Ran Done) × (status ≡ Sink) × fault)
            → (code_of status ≡ 2) ⊎ (code_of status ≡ 3) ⊎ (code_of status ≡ 6) ⊎ (code_of status ≡ 9)
        by (inl same) = inr (inr (inl (ap code_of (same ∙ refused.0))))
        by (inr sunk) = (let e : File ≡ Ran Done = sym refused.0 ∙ sunk.0 in absurd cc)
    of_form counts counts' disk disk' meant (inr (files, given, counted, (ending, is, means))) ends =
        ⊎_elim (refused_told meant ends ending is) (run_told meant ends ending is)
        (of_command (points_of (command.Bench m) words) files
        (record { ending = ending; text = meant.text; history = meant.history }) given means.2)

    pub tells_bench : (counts counts' : Counts) (disk disk' : Seen) → command_of words ≡ Some (command.Bench m)
        → Answered (is_over_journal (command_of words)) (Meant held counts counts' disk disk' words) old new fault status history settled
        → Tells
    tells_bench counts counts' disk disk' form (inl none) =
        untold (inr (inr (inr (ap code_of none.0)))) (none.2 (ap is_over_journal form)).0
    tells_bench counts counts' disk disk' form (inr (meant, means, ends)) =
        of_form counts counts' disk disk' meant
        (subst (λ (o : Option Command). MeansForm held counts counts' disk disk' words o meant) form means) ends

-- what ran is a lawful and annotated run of an accepted design
pub bench_promise : (held : List ℕ → Told) (words : List (List ℕ)) (m : Mix) (old new : Option (List ℕ)) (code : ℕ)
    (history : List Event) → TellsBench held words m old new code history → KeepsPromise held words (command.Bench m) history
bench_promise held words m old new code history (inl none) = inl none.4
bench_promise held words m old new code history (inr b) =
    let w = b.comes.world in
    let same : w.events ≡ history = sym (b.history_is ∙ b.comes.history) in
    inr (record {
      design = b.design;
      certificate = b.certificate;
      others = [];
      given = b.given;
      d = b.d;
      is_text = b.is_text;
      accepted = b.accepted;
      last = w;
      ends_well = subst (λ (h : List Event). EndsWell b.d h w) same b.comes.comes.ends_well;
    })
