-- The rule of a source, by the two numbers of its plant that it reads: the cpus, and the version of group 2.
use Rattle.std.specs.Prelude.{Bool, ◌&&◌, ℕ, leb, ltb}
use Rattle.rules.specs.declared.Source.{Source}
use Rattle.rules.specs.Limits.{devhandles, devinos}
use Rattle.rules.specs.Tables.{cookie_right, enabled_right}

unfoldable pub source_right_under : ℕ → ℕ → Source → Bool
source_right_under cpus major s =
    (ltb s.devhandle devhandles && ltb s.devino devinos)
    && ((leb s.enabled 1 && leb s.state 2)
    && (ltb s.target cpus
    && (cookie_right major s && enabled_right major s)))
