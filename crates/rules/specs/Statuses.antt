-- "The statuses": the five numbers of the answer to an event, the three of loading, and the two of writing.
use Rattle.std.specs.Prelude.{ℕ, List, [], ◌∷◌, Ok, Err}
use Rattle.rules.specs.Types.{Refusal, ENOCPU, ENORADDR, EBADPGSZ, EBADTSB, EINVAL, EBADTRAP, EBADALIGN, EWOULDBLOCK, ENOTSUPPORTED, BadTables, ShortMemory, NoCaller, NoSource, ImageRefusal, ImageShort, HeaderOrCount, ExtentNumbers, ExtentOrder, PagesShared, SourceTwice, FillOrBehind, Answer, Done, One, Two, Refused, Loading, WriteRefusal, Writing}

unfoldable pub status_of : Refusal → ℕ
status_of ENOCPU = 1
status_of ENORADDR = 2
status_of EBADPGSZ = 4
status_of EBADTSB = 5
status_of EINVAL = 6
status_of EBADTRAP = 7
status_of EBADALIGN = 8
status_of EWOULDBLOCK = 9
status_of ENOTSUPPORTED = 13
status_of BadTables = 101
status_of ShortMemory = 102
status_of NoCaller = 103
status_of NoSource = 104

-- "Each answers a status and four values; a value not named here is 0." "Refusals return 0 in all four values."
unfoldable pub numbers : Answer → List ℕ
numbers Done = 0 ∷ 0 ∷ 0 ∷ 0 ∷ 0 ∷ []
numbers (One v) = 0 ∷ v ∷ 0 ∷ 0 ∷ 0 ∷ []
numbers (Two v w) = 0 ∷ v ∷ w ∷ 0 ∷ 0 ∷ []
numbers (Refused r) = status_of r ∷ 0 ∷ 0 ∷ 0 ∷ 0 ∷ []

-- "Loading now answers a status and two values", by request No. 4: "111 header or count, 112 extent numbers, 113 order or overlap of
-- one guest's extents, 114 host pages shared, 115 source named twice, 116 fill bits or bytes behind. Value 1 is the guest number of
-- the first fault (..; 0 for the header; the guest count for 116), value 2 the position of the extent or source in that guest,
-- otherwise 0"; 110 and 0 "have both values 0"
unfoldable pub image_numbers : ImageRefusal → List ℕ
image_numbers ImageShort = 110 ∷ 0 ∷ 0 ∷ []
image_numbers (HeaderOrCount guest) = 111 ∷ guest ∷ 0 ∷ []
image_numbers (ExtentNumbers guest at) = 112 ∷ guest ∷ at ∷ []
image_numbers (ExtentOrder guest at) = 113 ∷ guest ∷ at ∷ []
image_numbers (PagesShared guest at) = 114 ∷ guest ∷ at ∷ []
image_numbers (SourceTwice guest at) = 115 ∷ guest ∷ at ∷ []
image_numbers (FillOrBehind guests) = 116 ∷ guests ∷ 0 ∷ []

unfoldable pub loading_numbers : Loading → List ℕ
loading_numbers (Ok u) = 0 ∷ 0 ∷ 0 ∷ []
loading_numbers (Err r) = image_numbers r

-- "101, 105 for tables with no guest, 106 for a buffer too short" (request No. 2)
unfoldable pub write_status : WriteRefusal → ℕ
write_status WriteRefusal.BadTables = 101
write_status WriteRefusal.NoGuest = 105
write_status WriteRefusal.ShortBuffer = 106

-- the status and "the length"; a refusal "answers length 0"
unfoldable pub writing_numbers : Writing → List ℕ
writing_numbers (Ok n) = 0 ∷ n ∷ []
writing_numbers (Err r) = write_status r ∷ 0 ∷ []
