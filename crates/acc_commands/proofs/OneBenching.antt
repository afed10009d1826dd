-- One thing is said of `bench`.
use Rattle.std.proofs.Common.{◌≡◌, ℕ, List, inl, inr, sym, subst}
use Rattle.acc_base.specs.declared.designs.Design.{Design}
use Rattle.acc_base.specs.declared.machines.Call.{Call}
use Rattle.acc_commands_files.specs.BenchFiles.{SaysBench, SaysOfCalls, SaysOfMix, SaysOfLoad, SaysOfTables, BenchesCertified, BenchesFiles}
use Rattle.acc_commands_files.specs.Mix.{Mix}
use Rattle.acc_commands_files.specs.Workloads.{load_said, mix_said}
use Rattle.acc_commands_files.proofs.OneBench.{one_bench}
use Rattle.acc_commands_journals.specs.Text.{Said}
use Rattle.acc_commands_journals.proofs.OneDesign.{one_design, one_refusal, formed_or_refused}
use Rattle.acc_commands_journals.proofs.OneSchema.{one_schema, one_schema_refusal, found_or_refused}
use Rattle.tpcc_tables.specs.declared.tables.TableSet.{TableSet}
use Rattle.acc_commands.proofs.OneRun.{one_script_refusal, one_calls, one_certificate_refusal, accepted_or_refused}

module _ (d : Design) (a b : Said) where
  one_of_calls : (SaysRun : List Call → Said → Type 0) → ((calls : List Call) → SaysRun calls a → SaysRun calls b → a ≡ b)
      → (script : List ℕ) → SaysOfCalls SaysRun d script a → SaysOfCalls SaysRun d script b → a ≡ b
  one_of_calls SaysRun once script (inl h) (inl k) = one_script_refusal d script a b h k
  one_of_calls SaysRun once script (inl h) (inr k) = absurd (h.none k.calls k.is_script)
  one_of_calls SaysRun once script (inr h) (inl k) = absurd (k.none h.calls h.is_script)
  one_of_calls SaysRun once script (inr h) (inr k) =
      let same = one_calls d script h.calls k.calls h.is_script k.is_script in
      once k.calls (subst (λ (calls : List Call). SaysRun calls a) same h.says) k.says

  one_by_load : (s : TableSet) (m : Mix) → SaysOfLoad d s m a → SaysOfLoad d s m b → a ≡ b
  one_by_load s m =
      one_of_calls (SaysOfMix d s m)
      (λ load. one_of_calls (SaysBench d s m load) (λ calls. one_bench d s m load calls a b) (mix_said m)) (load_said m.scale)

  one_by_tables : (m : Mix) → SaysOfTables d m a → SaysOfTables d m b → a ≡ b
  one_by_tables m (inl h) (inl k) = one_schema_refusal d a b h k
  one_by_tables m (inl h) (inr k) = absurd (found_or_refused d k.tables a k.schema h)
  one_by_tables m (inr h) (inl k) = absurd (found_or_refused d h.tables b h.schema k)
  one_by_tables m (inr h) (inr k) =
      one_by_load k.tables m
      (subst (λ (s : TableSet). SaysOfLoad d s m a) (one_schema d h.tables k.tables h.schema k.schema) h.says) k.says

  one_by_certificate : (certificate : List ℕ) (m : Mix) → BenchesCertified d certificate m a → BenchesCertified d certificate m b → a ≡ b
  one_by_certificate certificate m (inl h) (inl k) = one_certificate_refusal d certificate a b h k
  one_by_certificate certificate m (inl h) (inr k) = absurd (accepted_or_refused d certificate a k.accepted h)
  one_by_certificate certificate m (inr h) (inl k) = absurd (accepted_or_refused d certificate b h.accepted k)
  one_by_certificate certificate m (inr h) (inr k) = one_by_tables m h.says k.says

pub one_bench_of : (m : Mix) (design certificate : List ℕ) (a b : Said) → BenchesFiles m design certificate a
    → BenchesFiles m design certificate b → a ≡ b
one_bench_of m design certificate a b (inl h) (inl k) = one_refusal design a b h k
one_bench_of m design certificate a b (inl h) (inr k) = absurd (formed_or_refused design k.d a k.is_text k.formed h)
one_bench_of m design certificate a b (inr h) (inl k) = absurd (formed_or_refused design h.d b h.is_text h.formed k)
one_bench_of m design certificate a b (inr h) (inr k) =
    one_by_certificate k.d a b certificate m
    (subst (λ (d : Design). BenchesCertified d certificate m a) (one_design design h.d k.d h.is_text k.is_text) h.says) k.says
