use Rattle.wesl_text_writable.proofs.Writable as writable
use Rattle.wesl_text_writable.proofs.laws.law_of_writing.Goals as goal

pub returns : goal.returns
returns c = record { said_are_writable = writable.said_are_writable; spellings_say = writable.spellings_say }
