-- What `admitted` asks of a group's negotiated major, by the code's own functions.
use Rattle.std.specs.Prelude.{ℕ, leb, eqb, if◌then◌else◌, Ok, Err}
use Rattle.rules.specs.declared.Refusal.TheVariants.{EBADTRAP, ENOTSUPPORTED}
use Rattle.records.specs.Verdict.{Verdict}

unfoldable pub group_open : ℕ → Verdict
group_open major = if leb 1 major then Ok tt else Err EBADTRAP

unfoldable pub sysino_open : ℕ → Verdict
sysino_open major =
    if leb 1 major then (if eqb major 1 then Ok tt else Err ENOTSUPPORTED) else
    Err EBADTRAP

unfoldable pub cookie_open : ℕ → Verdict
cookie_open major = if eqb major 2 then Ok tt else Err EBADTRAP
