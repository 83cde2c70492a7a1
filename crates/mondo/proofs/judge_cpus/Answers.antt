-- `mondo::judge_cpus` meets its contract: each return is the rule's case, by what the searches of the list came to.
use Rattle.std.proofs.Common.{rules, tests, ◌∙◌, true, false}
use Rattle.std.proofs.lemmas.Iterator.{YieldsList-from_slice}
use Rattle.std.proofs.lemmas.Iterator.Search.{any_from_yields_List}
use Rattle.rules.specs.Mondo.{is_caller, is_stranger}
use Rattle.mondo.proofs.MondoLaws.{any_listed, cpus_caller, cpus_stranger, cpus_right}
use Rattle.mondo.proofs.judge_cpus.Goals as goal

pub returns-then-any : goal.returns-then-any
returns-then-any c rest =
    cpus_caller _ _ _ _ rest
    (any_from_yields_List (is_caller c.args.cpu) _ _ true c.if-any.ensures.ran (YieldsList-from_slice c.args.cpus.now cc) (λ x b q k. search (rules, tests)) ∙ any_listed (is_caller c.args.cpu) 0 c.args.cpus.now)

pub returns-then-any-2 : goal.returns-then-any-2
returns-then-any-2 c rest =
    cpus_stranger _ _ _ _ rest
    (any_from_yields_List (is_caller c.args.cpu) _ _ false c.if-any.ensures.ran (YieldsList-from_slice c.args.cpus.now cc) (λ x b q k. search (rules, tests)) ∙ any_listed (is_caller c.args.cpu) 0 c.args.cpus.now)
    (any_from_yields_List (is_stranger c.args.limit) _ _ true c.if-any-2.ensures.ran (YieldsList-from_slice c.args.cpus.now cc) (λ x b q k. search (rules, tests)) ∙ any_listed (is_stranger c.args.limit) 0 c.args.cpus.now)

pub returns : goal.returns
returns c rest =
    cpus_right _ _ _ _ rest
    (any_from_yields_List (is_caller c.args.cpu) _ _ false c.if-any.ensures.ran (YieldsList-from_slice c.args.cpus.now cc) (λ x b q k. search (rules, tests)) ∙ any_listed (is_caller c.args.cpu) 0 c.args.cpus.now)
    (any_from_yields_List (is_stranger c.args.limit) _ _ false c.if-any-2.ensures.ran (YieldsList-from_slice c.args.cpus.now cc) (λ x b q k. search (rules, tests)) ∙ any_listed (is_stranger c.args.limit) 0 c.args.cpus.now)
