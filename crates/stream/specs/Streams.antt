-- What a read came to.
use Rattle.std.specs.Prelude.{◌≡◌, ◌≤◌, ℕ, zero, suc, List, length, take, Result, Ok, Err}
use Rattle.std.specs.declared.io.ErrorKind.{ErrorKind}
use Rattle.stream.specs.declared.Got.{Got}

-- by how many bytes came, or why none did: no bytes are the end only if nothing failed
abbrev pub got_of : Result ℕ ErrorKind → Got
got_of (Ok zero) = Got.End
got_of (Ok (suc n)) = Got.Bytes (suc n)
got_of (Err ErrorKind.Interrupted) = Got.Again
got_of (Err kind) = Got.Failed

-- how many bytes came
abbrev pub bytes_of : Got → ℕ
bytes_of (Got.Bytes n) = n
bytes_of Got.End = 0
bytes_of Got.Again = 0
bytes_of Got.Failed = 0

-- so many bytes are the front of a buffer, and are so many. The second part follows from the first, and spares a caller a proof.
abbrev pub IsPrefixLen : ℕ → List ℕ → Type 0
IsPrefixLen n xs = (n ≤ length xs) × (n ≡ length (take n xs))
