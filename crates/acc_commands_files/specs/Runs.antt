-- What a run in memory tells.
use Rattle.acc_commands_inputs.specs.Answers.{said_of}
use Rattle.acc_commands_inputs.specs.Text.{Said}
use Rattle.acc_commands_files.specs.declared.memory_runs.MemoryRun.{MemoryRun}

abbrev pub told_by : MemoryRun → Said
told_by r = said_of r.answer r.history
