use Rattle.std.proofs.Common.{◌≡◌, ◌++◌, drop, None}
use Rattle.xbar_page.specs.{Sections.{sections, sections_from}, Stays.sets_of}
use Rattle.xbar_page.proofs.page.sets_after.Given as goal

abbrev pub invariant-loop-owner : goal.invariant-loop-owner
invariant-loop-owner l =
    record {
      plan : l.office.plan ≡ l.plan;
      sets : l.sets.items ++ sets_of (sections_from l.plan l.office.paths None (drop l.owner-index l.records)) ≡ sets_of (sections l.plan l.records);
    }
