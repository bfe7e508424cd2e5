use Rattle.std.proofs.Common.{◌≡◌, ◌==◌, false, List, [], ◌∷◌, ◌++◌, length, refl, append_assoc, codes, flat_map}
use Rattle.{xbar_equip.specs.Link.Link, xbar_office_text.specs.Faults.{fault_line, fault_lines}}
use Rattle.xbar_office_text.proofs.faults.add_fault_lines.Goals as goal

-- if there are links, each has its line below the heading
some_links : (links : List Link) → false ≡ (length links == 0) → codes "\nLINKS OUT OF ORDER\n" ++ flat_map fault_line links ≡ fault_lines links
unfolding fault_lines
some_links [] e = cc
some_links (link ∷ links) e = refl

pub returns-in_ok-add_each_line : goal.returns-in_ok-add_each_line
returns-in_ok-add_each_line c =
    rw (c.in_ok-add_each_line.ensures, c.in_ok-push_str.ensures.bytes, append_assoc, some_links c.args.links.now c.if-not-is_empty.ensures)
