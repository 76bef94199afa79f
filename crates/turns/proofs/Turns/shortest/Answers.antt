-- The least of what the chain goes over.
use Rattle.std.proofs.Common.{sym, ◌∙◌, rules, tests}
use Rattle.std.proofs.lemmas.Iterator.{YieldsList-from_slice}
use Rattle.std.proofs.lemmas.Iterator.Adapters.{option_map_id}
use Rattle.std.proofs.lemmas.Iterator.Consumers.{min_from_yields_List, YieldsList-from_filter_map}
use Rattle.turns.specs.Turns.{period_of}
use Rattle.turns.proofs.Turns.shortest.Goals as goal

pub returns : goal.returns
returns c =
    sym (option_map_id _)
    ∙ min_from_yields_List c.filter_map.result _ c.min.ensures.ran
    (YieldsList-from_filter_map _ period_of (YieldsList-from_slice c.args.self.now.waiters cc) c.filter_map.ensures.closure (λ x r q k. search (rules, tests)))
