pub mod StridedLaws
