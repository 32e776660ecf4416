use Rattle.data_versions.proofs.Grids.{boxes_sift, marks_sift}
use Rattle.data_versions.proofs.sieve.Sieve.sift.Goals as goal

pub returns-in-Some : goal.returns-in-Some
returns-in-Some c features sieve =
    marks_sift c.args.self.now features c.args.wanted c.in-Some.asked c.sift_boxes-sifted.result c.sift_marks.new.sifted sieve c.in-Some.is c.sift_marks.ensures.long
    c.sift_boxes-sifted.ensures.sifted c.sift_marks.ensures.sifted

pub returns-in_default : goal.returns-in_default
returns-in_default c features sieve =
    boxes_sift c.args.self.now features c.args.wanted c.sift_boxes-sifted.result sieve c.sift_boxes-sifted.ensures.long c.sift_boxes-sifted.ensures.sifted
