use Rattle.std.proofs.Common.{◌≤◌, ◌++◌, List, ℕ, append_assoc, append-nil, length, take, sym, ◌∙◌, ap, arith, string_bytes, take_all}
use Rattle.{xbar_moves.specs.Exchange.Marker, xbar_look.{specs.Lines.{marker_lines, markers_lines}, proofs.MarkersTold.lines_more}}
use Rattle.xbar_look.proofs.markers.add_markers_lines.Goals as goal

pub loop-number-init : goal.loop-number-init
unfolding markers_lines
loop-number-init c = sym (append-nil (string_bytes c.args.text.now))

pub loop-number-preserved : goal.loop-number-preserved
loop-number-preserved c =
    let words = c.args.words.now in
    let markers = c.args.markers.now in
    let n = c.loop-number.number in
    let m = c.index-markers-number.result in
    let within = c.loop-number-test.true in
    c.in_ok-add_marker_lines.ensures
    ∙ ap (λ (text : List ℕ). text ++ marker_lines words n m) c.loop-number.invariant
    ∙ append_assoc (string_bytes c.args.text.now) (markers_lines words 0 (take n markers)) (marker_lines words n m)
    ∙ ap (λ (lines : List ℕ). string_bytes c.args.text.now ++ lines)
    (sym (lines_more words markers n m c.index-markers-number.is (omega (arith, within, c.requires.count))))

pub returns : goal.returns
returns c =
    let all : length c.args.markers.now ≤ c.loop-number.number = omega (arith, c.loop-number-test.false, c.requires.count) in
    c.loop-number.invariant
    ∙ ap (λ (told : List Marker). string_bytes c.args.text.now ++ markers_lines c.args.words.now 0 told) (take_all c.loop-number.number c.args.markers.now all)
