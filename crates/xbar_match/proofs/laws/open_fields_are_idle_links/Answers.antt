use Rattle.std.proofs.Common.{◌+◌, ◌*◌, arith, get_or}
use Rattle.xbar_match.proofs.IdleFields.{line_link-field, junctor-field, junctor-back_field, trunk_link-field}
use Rattle.xbar_match.proofs.laws.open_fields_are_idle_links.Goals as goal

pub returns-clause-line_link : goal.returns-clause-line_link
returns-clause-line_link c = λ words paths path shows ranges p.
    let f = p.line.frame in let s = p.line.switch in
    line_link-field paths (get_or words (20 * path.line.frame + path.line.switch) 0) path.line.frame path.line.switch path.channel ranges f s p.channel
    (shows.switch (20 * path.line.frame + path.line.switch) (omega arith))

pub returns-clause-junctor : goal.returns-clause-junctor
returns-clause-junctor c = λ words paths path shows ranges p.
    let f = p.line.frame in let n = p.channel in
    junctor-field paths (get_or words (20 * path.line.frame + 10 + path.channel) 0) path.line.frame path.channel path.place.frame ranges f n p.place.frame
    (shows.switch (20 * path.line.frame + 10 + path.channel) (omega arith))

pub returns-clause-junctor_back : goal.returns-clause-junctor_back
returns-clause-junctor_back c = λ words paths path shows ranges p.
    let t = p.place.frame in let n = p.channel in
    junctor-back_field paths (get_or words (200 + 20 * path.place.frame + 10 + path.channel) 0) path.place.frame path.channel path.line.frame ranges t n
    p.line.frame (shows.switch (200 + 20 * path.place.frame + 10 + path.channel) (omega arith))

pub returns-clause-trunk_link : goal.returns-clause-trunk_link
returns-clause-trunk_link c = λ words paths path shows ranges p.
    let t = p.place.frame in let u = p.place.switch in
    trunk_link-field paths (get_or words (200 + 20 * path.place.frame + path.place.switch) 0) path.place.frame path.place.switch path.channel ranges t u
    p.channel (shows.switch (200 + 20 * path.place.frame + path.place.switch) (omega arith))
