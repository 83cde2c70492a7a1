-- The types that src/lib.rt declares, under short names. A variant that shares its name with another is written behind its type, as in
-- `Event.Call`. What may be absent is an Option, None or Some of it; what may be refused a Result, Ok of it or Err of the refusal. `tt` is the one
-- value of Unit, where there is nothing more to say.
use Rattle.std.specs.Prelude.{ℕ, Result}
pub use Rattle.rules.specs.declared.Real.{Real}
pub use Rattle.rules.specs.declared.Host.{Host}
pub use Rattle.rules.specs.declared.Extent.{Extent}
pub use Rattle.rules.specs.declared.Extents.{Extents}
pub use Rattle.rules.specs.declared.Ring.{Ring}
pub use Rattle.rules.specs.declared.QueueRecord.{QueueRecord}
pub use Rattle.rules.specs.declared.Queue.{Queue}
pub use Rattle.rules.specs.declared.Tsb.{Tsb}
pub use Rattle.rules.specs.declared.Tsbs.{Tsbs}
pub use Rattle.rules.specs.declared.Cpu.{Cpu}
pub use Rattle.rules.specs.declared.Source.{Source}
pub use Rattle.rules.specs.declared.Versions.{Versions}
pub use Rattle.rules.specs.declared.Plant.{Plant}
pub use Rattle.rules.specs.declared.Guest.{Guest}
pub use Rattle.rules.specs.declared.Tables.{Tables}
pub use Rattle.rules.specs.declared.Call.{Call}
pub use Rattle.rules.specs.declared.HeadWrite.{HeadWrite}
pub use Rattle.rules.specs.declared.Device.{Device}
pub use Rattle.rules.specs.declared.LoadAt.{LoadAt}
pub use Rattle.rules.specs.declared.StoreAt.{StoreAt}
pub use Rattle.rules.specs.declared.TsbHit.{TsbHit}
pub use Rattle.rules.specs.declared.Event.{Event}
pub use Rattle.rules.specs.declared.Group.{Group}
pub use Rattle.rules.specs.declared.SourceCall.{SourceCall}
pub use Rattle.rules.specs.declared.CookieCall.{CookieCall}
pub use Rattle.rules.specs.declared.Function.{Function}
pub use Rattle.rules.specs.declared.Refusal.{Refusal}
pub use Rattle.rules.specs.declared.Refusal.TheVariants.{ENOCPU, ENORADDR, EBADPGSZ, EBADTSB, EINVAL, EBADTRAP, EBADALIGN, EWOULDBLOCK, ENOTSUPPORTED, BadTables, ShortMemory, NoCaller, NoSource}
pub use Rattle.rules.specs.declared.Answer.{Answer}
pub use Rattle.rules.specs.declared.Answer.TheVariants.{Done, One, Two, Refused}
pub use Rattle.rules.specs.declared.ImageRefusal.{ImageRefusal}
pub use Rattle.rules.specs.declared.ImageRefusal.TheVariants.{ImageShort, HeaderOrCount, ExtentNumbers, ExtentOrder, PagesShared, SourceTwice, FillOrBehind}
pub use Rattle.rules.specs.declared.Loaded.{Loaded}
pub use Rattle.rules.specs.declared.Reply.{Reply}
pub use Rattle.rules.specs.declared.WriteRefusal.{WriteRefusal}
pub use Rattle.rules.specs.declared.PlanLine.{PlanLine}
pub use Rattle.rules.specs.declared.Stage.{Stage}
pub use Rattle.rules.specs.declared.Desk.{Desk}

-- the answer of loading
abbrev pub Loading : Type 0
Loading = Result Unit ImageRefusal

-- the answer of writing: the length of the image, or why there is none
abbrev pub Writing : Type 0
Writing = Result ℕ WriteRefusal
