use Rattle.cl_control.proofs.CallSoundness.{new_is_sound, calls_keep_sound}
use Rattle.cl_control.proofs.laws.calls_keep_sound.Goals as goal

pub returns-clause-new : goal.returns-clause-new
returns-clause-new c = new_is_sound

pub returns-clause-calls : goal.returns-clause-calls
returns-clause-calls c = calls_keep_sound
