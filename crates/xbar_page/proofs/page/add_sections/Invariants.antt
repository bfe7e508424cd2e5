use Rattle.std.proofs.Common.{◌≡◌, [], ◌++◌, drop, None, flat_map, string_bytes}
use Rattle.xbar_page.specs.{Section.section_text, Sections.sections_from}
use Rattle.xbar_page.proofs.page.add_sections.Given as goal

abbrev pub invariant-loop-place : goal.invariant-loop-place
invariant-loop-place l =
    string_bytes l.text ++ flat_map (section_text l.plan) (sections_from l.plan [] l.before (drop l.place l.records))
    ≡ string_bytes l.initial.text ++ flat_map (section_text l.plan) (sections_from l.plan [] None l.records)
