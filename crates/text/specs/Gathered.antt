-- The numbers of an event, as the code holds them: in an array of nine, with zeros behind them.
use Rattle.std.specs.Prelude.{◌≡◌, ℕ, ◌≤◌, List, ◌++◌, leb, length, get_or, drop, replicate, if◌then◌else◌, Option, Some, None}
use Rattle.text.specs.declared.fields.Fields.{Fields}

abbrev pub fields_of : List ℕ → Fields
fields_of ns = record { numbers = length ns; number = ns ++ drop (length ns) (replicate 9 0) }

-- no event has more than nine
unfoldable pub fields_or : Option (List ℕ) → Option Fields
fields_or None = None
fields_or (Some ns) = if leb (length ns) 9 then Some (fields_of ns) else None

-- from the place n on
abbrev pub ZeroFrom : ℕ → List ℕ → Type 0
ZeroFrom n ns = (k : ℕ) → n ≤ k → get_or ns k 0 ≡ 0
