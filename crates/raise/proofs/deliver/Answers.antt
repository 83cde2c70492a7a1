-- `raise::deliver` meets its contract: each return is the rule's case, by what was put.
use Rattle.raise.proofs.RaiseLaws.{deliver_full, deliver_done}
use Rattle.raise.proofs.deliver.Goals as goal

pub returns-in_default : goal.returns-in_default
returns-in_default c = deliver_full _ _ _ _ _ c.requires.sound c.requires.i_lt_sources c.requires.source_value _ c.requires.own_value _ _ c.device_word.ensures c.entry_of-entry.ensures _ c.requires.delivers _ c.in_default.ensures c.becomes.ensures

pub returns : goal.returns
returns c =
    deliver_done _ _ _ _ _ c.requires.sound c.requires.i_lt_sources c.requires.source_value _ c.requires.own_value _ _ c.device_word.ensures c.entry_of-entry.ensures _ c.requires.delivers _ _ c.in-Some.ensures
    (rw c.from-cpu.ensures at c.done_by.ensures)
