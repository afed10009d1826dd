-- The status behind a number.
use Rattle.std.proofs.Common.{◌≡◌, refl}
use Rattle.acc_journalled.specs.declared.answers.Ending.TheVariants.{Done, DesignRefused, ScriptRefused, JournalRefused}
use Rattle.acc_journalled.specs.declared.answers.Ending.TheVariants.{DiskFailed, Unbegun, Open, ConditionFalse}
use Rattle.acc_cli.specs.declared.status.Status.{Status}
use Rattle.acc_cli.specs.declared.status.Status.TheVariants.{Usage, File, Sink, Memory, Ran}
use Rattle.acc_cli.specs.Status.{code_of}

pub zero_is_done : (status : Status) → code_of status ≡ 0 → status ≡ Ran Done
zero_is_done (Ran Done) h = refl
zero_is_done (Ran DesignRefused) h = cc
zero_is_done (Ran ScriptRefused) h = cc
zero_is_done (Ran JournalRefused) h = cc
zero_is_done (Ran DiskFailed) h = cc
zero_is_done (Ran Unbegun) h = cc
zero_is_done (Ran Open) h = cc
zero_is_done (Ran ConditionFalse) h = cc
zero_is_done Usage h = cc
zero_is_done File h = cc
zero_is_done Sink h = cc
zero_is_done Memory h = cc

pub seven_is_sink : (status : Status) → code_of status ≡ 7 → status ≡ Sink
seven_is_sink (Ran Done) h = cc
seven_is_sink (Ran DesignRefused) h = cc
seven_is_sink (Ran ScriptRefused) h = cc
seven_is_sink (Ran JournalRefused) h = cc
seven_is_sink (Ran DiskFailed) h = cc
seven_is_sink (Ran Unbegun) h = cc
seven_is_sink (Ran Open) h = cc
seven_is_sink (Ran ConditionFalse) h = cc
seven_is_sink Usage h = cc
seven_is_sink File h = cc
seven_is_sink Sink h = refl
seven_is_sink Memory h = cc

pub four_is_refused : (status : Status) → code_of status ≡ 4 → status ≡ Ran JournalRefused
four_is_refused (Ran Done) h = cc
four_is_refused (Ran DesignRefused) h = cc
four_is_refused (Ran ScriptRefused) h = cc
four_is_refused (Ran JournalRefused) h = refl
four_is_refused (Ran DiskFailed) h = cc
four_is_refused (Ran Unbegun) h = cc
four_is_refused (Ran Open) h = cc
four_is_refused (Ran ConditionFalse) h = cc
four_is_refused Usage h = cc
four_is_refused File h = cc
four_is_refused Sink h = cc
four_is_refused Memory h = cc
